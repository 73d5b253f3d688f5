-- A loop that writes a list's images over the front of another list. Assumes nothing.
use Rattle.std.proofs.Common.{◌≡◌, ℕ, ◌+◌, ◌<◌, Bool, true, false, List, [], ◌∷◌, ◌++◌, map, length, get_or, take, drop, set, sym, refl, ap, ◌∙◌, arith, length-take-le}
use lib.ListN.{length-map}
use lib.Seq.{append_snoc, set_at}
use mir.Val.{bool_byte}
use Rattle.std.proofs.lemmas.List.{map_push, take_more, drop_more}
use Rattle.polar.specs.Bytes.{byte}

-- the library's byte of a bool is ours
pub byte_is : (b : Bool) → bool_byte b ≡ byte b
byte_is true = refl
byte_is false = refl

-- one element more
pub written_push : {X Y : Type 0} (f : X → Y) (xs : List X) (x : X) (ys : List Y) (k : ℕ) (e : Y) → length xs ≡ k → k < length ys
    → set (map f xs ++ drop k ys) k (f x) ≡ map f (xs ++ x ∷ []) ++ drop (k + 1) ys
written_push f xs x ys k e size within =
    let front = map f xs in
    ap (λ r. set (front ++ r) k (f x)) (drop_more ys k e within)
    ∙ set_at front (get_or ys k e) (drop (k + 1) ys) (f x) k (length-map xs f ∙ size)
    ∙ sym (append_snoc front (f x) (drop (k + 1) ys)) ∙ ap (λ r. r ++ drop (k + 1) ys) (sym (map_push f xs x))

pub written_more : {X Y : Type 0} (f : X → Y) (xs : List X) (ys : List Y) (i : ℕ) (d : X) (e : Y) → i < length xs → i < length ys
    → set (map f (take i xs) ++ drop i ys) i (f (get_or xs i d)) ≡ map f (take (i + 1) xs) ++ drop (i + 1) ys
written_more f xs ys i d e p q =
    written_push f (take i xs) (get_or xs i d) ys i e (length-take-le i xs (omega arith)) q
    ∙ ap (λ r. map f r ++ drop (i + 1) ys) (sym (take_more xs i d p))
