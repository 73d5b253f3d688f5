-- Contents and their stored bytes correspond one to one. Assumes nothing.
use Rattle.std.proofs.Common.{◌≡◌, ℕ, zero, suc, ◌+◌, ◌-◌, ◌*◌, ◌/◌, ◌%◌, ◌^◌, ◌<◌, ◌≤◌, Bool, true, false, not, leb, List, [], ◌∷◌, ◌++◌, map, length, replicate, ℤ, pos, negsuc, nat_abs, Ok, sym, refl, ap, ◌∙◌, subst, ⊎_elim, append_assoc, append-nil, arith, length-append}
use lib.ListN.{length-replicate}
use Rattle.std.specs.List.{flat_map}
use Rattle.std.proofs.lemmas.Bool.{eq-eqb, ne_eqb, le-leb, leb-true, and_from, and_parts, cond-true, cond-false, cond_both, cases_eq}
use Rattle.std.proofs.lemmas.Grind.{flat_map-append}
use Rattle.polar.specs.Words.{trues}
use Rattle.storage.specs.Contents.{Content, content_of, top_count, all_small, Sound}
use Rattle.storage.specs.Stored.{number, runs_from, runs, code, version, fields, stored}
use Rattle.storage.specs.Reading.{Read, got, refused, mapped, ended, field_at, later_runs_at, marks_at, counts_at, coded_count, content_at, outcome}
use Rattle.storage.specs.Laws.{Bytes, LoadsWhatIsStored, AcceptsOnlyWhatIsStored}
use Rattle.storage.proofs.Steps.{then_got, runs_more, runs_all, marks_first}
use Rattle.storage.proofs.Forms.{Gets, never_refused, got_value, got_rest, via, unmapped, bytes_after, field_read}
use Rattle.storage.proofs.Spelling.{FieldWritten, field_written}

-- the codes of counts
pub count_of_code : (v : ℤ) → coded_count (code v) ≡ v
count_of_code (pos n) =
    let p : 2 * n % 2 ≡ 0 = omega arith in
    let q : 2 * n / 2 ≡ n = omega arith in
    cond-true _ _ _ (eq-eqb (2 * n % 2) 0 p) ∙ ap pos q
count_of_code (negsuc n) =
    let p : (2 * n + 1) % 2 ≡ 0 → ⊥ = omega arith in
    let q : (2 * n + 1) / 2 ≡ n = omega arith in
    cond-false _ _ _ (ne_eqb ((2 * n + 1) % 2) 0 p) ∙ ap negsuc q

pub code_count_of : (c : ℕ) → code (coded_count c) ≡ c
code_count_of c =
    ⊎_elim (λ h. ap code (cond-true _ _ _ (eq-eqb (c % 2) 0 h)) ∙ (let e : 2 * (c / 2) ≡ c = omega arith in e))
    (λ h. ap code (cond-false _ _ _ (ne_eqb (c % 2) 0 h)) ∙ (let e : 2 * (c / 2) + 1 ≡ c = omega arith in e)) (cases_eq (c % 2) 0)

pub code_small : (top : ℕ) (v : ℤ) → nat_abs v ≤ top → code v ≤ 2 * top
code_small top (pos n) h = omega arith
code_small top (negsuc n) h = omega arith

small_code : (top : ℕ) (v : ℤ) → code v ≤ 2 * top → nat_abs v ≤ top
small_code top (pos n) h = omega arith
small_code top (negsuc n) h = omega arith

-- counts
joins : (n : ℕ) (ns rest : List ℕ) → flat_map number (n ∷ ns) ++ rest ≡ number n ++ (flat_map number ns ++ rest)
joins n ns rest = append_assoc (number n) (flat_map number ns) rest

pub counts_read : (top : ℕ) (vs : List ℤ) (at : ℕ) (rest : List ℕ) → top < 2 ^ 20 → all_small top vs ≡ true → Gets (counts_at top (length vs) at (flat_map number (map code vs) ++ rest)) vs rest
unfolding counts_at
counts_read top [] at rest few h = (at, refl)
counts_read top (v ∷ vs) at rest few h =
    let p = and_parts _ _ h in
    let low = code_small top v (leb-true _ top p.0) in
    let f = field_read 0 (2 * top) (code v) at (flat_map number (map code vs) ++ rest) (omega arith) (omega arith) low in
    let g = counts_read top vs f.0 rest few p.1 in
    (g.0, rw (joins (code v) (map code vs) rest) (then_got _ f.1 ∙ ap (mapped (λ ws. coded_count (code v) ∷ ws)) g.1 ∙ ap (λ w. got (w ∷ vs) g.0 rest) (count_of_code v)))

pub record CountsWritten (top n : ℕ) (vs : List ℤ) (bytes rest : List ℕ) : Type 0 where
  pub whole : bytes ≡ flat_map number (map code vs) ++ rest
  pub long : length vs ≡ n
  pub small : all_small top vs ≡ true

pub counts_written : (top n at : ℕ) (bytes : List ℕ) (vs : List ℤ) (at' : ℕ) (rest : List ℕ) → Bytes bytes → counts_at top n at bytes ≡ got vs at' rest → CountsWritten top n vs bytes rest
unfolding counts_at
counts_written top zero at bytes vs at' rest b e =
    subst (λ ws. CountsWritten top 0 ws bytes rest) (got_value e) (record { whole = got_rest e; long = refl; small = refl })
counts_written top (suc n) at bytes vs at' rest b e =
    let v = via (field_at 0 (2 * top) at bytes) (λ c at bytes. mapped (λ ws. coded_count c ∷ ws) (counts_at top n at bytes)) vs at' rest e in
    let f = field_written 0 (2 * top) at bytes v.value v.place v.bytes b v.came in
    let u = unmapped (λ ws. coded_count v.value ∷ ws) (counts_at top n v.place v.bytes) vs at' rest v.goes in
    let b' = bytes_after (number v.value) v.bytes (subst Bytes f.whole b) in
    let w = counts_written top n v.place v.bytes u.0 at' rest b' u.1 in
    let is = code_count_of v.value in
    let low = small_code top (coded_count v.value) (subst (λ c. c ≤ 2 * top) (sym is) f.most) in
    subst (λ ws. CountsWritten top (suc n) ws bytes rest) (sym u.2) (record {
      whole = f.whole ∙ ap (λ l. number v.value ++ l) w.whole ∙ sym (joins v.value (map code u.0) rest) ∙ ap (λ c. flat_map number (c ∷ map code u.0) ++ rest) (sym is);
      long = ap suc w.long;
      small = and_from _ _ (le-leb _ top low) w.small;
    })

-- runs of marks
pub same_mark : (m : Bool) (n : ℕ) (ms : List Bool) → runs_from m n (m ∷ ms) ≡ runs_from m (n + 1) ms
unfolding runs_from
same_mark true n ms = refl
same_mark false n ms = refl

pub other_mark : (m : Bool) (n : ℕ) (ms : List Bool) → runs_from m n (not m ∷ ms) ≡ n ∷ runs_from (not m) 1 ms
unfolding runs_from
other_mark true n ms = refl
other_mark false n ms = refl

pub whole_run : (r : ℕ) (m : Bool) (n : ℕ) (ms : List Bool) → runs_from m n (replicate r m ++ ms) ≡ runs_from m (n + r) ms
whole_run zero m n ms = ap (λ k. runs_from m k ms) (let e : n ≡ n + 0 = omega arith in e)
whole_run (suc r) m n ms =
    same_mark m n (replicate r m ++ ms) ∙ whole_run r m (n + 1) ms ∙ ap (λ k. runs_from m k ms) (let e : n + 1 + r ≡ n + suc r = omega arith in e)

-- the runs of marks that begin a run of their own
abbrev pub runs_behind : List Bool → List ℕ
runs_behind [] = []
runs_behind (m ∷ ms) = runs_from m 1 ms

abbrev pub Starts : Bool → List Bool → Type 0
Starts mark [] = Unit {0}
Starts mark (m ∷ ms) = m ≡ mark

pub run_ends : (m : Bool) (n : ℕ) (ms : List Bool) → Starts (not m) ms → runs_from m n ms ≡ n ∷ runs_behind ms
unfolding runs_from
run_ends m n [] s = refl
run_ends m n (x ∷ ms) s = ap (λ y. runs_from m n (y ∷ ms)) s ∙ other_mark m n ms ∙ ap (λ y. n ∷ runs_from y 1 ms) (sym s)

replicate_last : (n : ℕ) (m : Bool) (ms : List Bool) → replicate (n + 1) m ++ ms ≡ replicate n m ++ (m ∷ ms)
replicate_last zero m ms = refl
replicate_last (suc n) m ms = ap (λ k. replicate k m ++ ms) (let e : suc n + 1 ≡ suc (n + 1) = omega arith in e) ∙ ap (λ l. m ∷ l) (replicate_last n m ms)

-- the first of several runs, of n marks, and then those that follow
one_run : (most : ℕ) (m : Bool) (n left at : ℕ) (ns rest : List ℕ) (t : List Bool) → 1 ≤ n → n ≤ left → left ≤ most → left ≤ 4096 → ((at' : ℕ) → Gets (later_runs_at (most - 1) (not m) (left - n) at' (flat_map number ns ++ rest)) t rest) → Gets (later_runs_at most m left at (flat_map number (n ∷ ns) ++ rest)) (replicate n m ++ t) rest
one_run most m n left at ns rest t some within enough few next =
    let f = field_read 1 left n at (flat_map number ns ++ rest) (omega arith) some within in
    let g = next f.0 in
    (g.0, rw (joins n ns rest) (runs_more m most left at _ (omega arith) enough f.1 ∙ ap (mapped (λ ms. replicate n m ++ ms)) g.1))

pub runs_read : (ms : List Bool) (m : Bool) (n most left at : ℕ) (rest : List ℕ) → 1 ≤ n → left ≡ n + length ms → left ≤ most → left ≤ 4096 → Gets (later_runs_at most m left at (flat_map number (runs_from m n ms) ++ rest)) (replicate n m ++ ms) rest
unfolding runs_from
runs_read [] m n most left at rest some e enough few =
    one_run most m n left at [] rest [] some (omega arith) enough few (λ at'. (at', runs_all (most - 1) (not m) (left - n) at' rest (omega arith)))
runs_read (true ∷ ms) true n most left at rest some e enough few =
    let g = runs_read ms true (n + 1) most left at rest (omega arith) (omega arith) enough few in
    (g.0, g.1 ∙ ap (λ l. got l g.0 rest) (replicate_last n true ms))
runs_read (false ∷ ms) false n most left at rest some e enough few =
    let g = runs_read ms false (n + 1) most left at rest (omega arith) (omega arith) enough few in
    (g.0, g.1 ∙ ap (λ l. got l g.0 rest) (replicate_last n false ms))
runs_read (false ∷ ms) true n most left at rest some e enough few =
    one_run most true n left at (runs_from false 1 ms) rest (false ∷ ms) some (omega arith) enough few (λ at'. runs_read ms false 1 (most - 1) (left - n) at' rest (omega arith) (omega arith) (omega arith) (omega arith))
runs_read (true ∷ ms) false n most left at rest some e enough few =
    one_run most false n left at (runs_from true 1 ms) rest (true ∷ ms) some (omega arith) enough few (λ at'. runs_read ms true 1 (most - 1) (left - n) at' rest (omega arith) (omega arith) (omega arith) (omega arith))

pub record RunsWritten (m : Bool) (left : ℕ) (ms : List Bool) (bytes rest : List ℕ) : Type 0 where
  pub whole : bytes ≡ flat_map number (runs_behind ms) ++ rest
  pub long : length ms ≡ left
  pub starts : Starts m ms

run_written : (m : Bool) (n left : ℕ) (t : List Bool) (bytes bytes' rest : List ℕ) → FieldWritten 1 left n bytes bytes' → RunsWritten (not m) (left - n) t bytes' rest → RunsWritten m left (replicate n m ++ t) bytes rest
run_written m zero left t bytes bytes' rest f w = absurd (omega (arith, f.least))
run_written m (suc n) left t bytes bytes' rest f w = record {
  whole = f.whole ∙ ap (λ l. number (suc n) ++ l) w.whole ∙ sym (joins (suc n) (runs_behind t) rest)
      ∙ ap (λ ns. flat_map number ns ++ rest) (sym (whole_run n m 1 t ∙ run_ends m (1 + n) t w.starts ∙ ap (λ k. k ∷ runs_behind t) (let e : 1 + n ≡ suc n = omega arith in e)));
  long = length-append (replicate (suc n) m) t ∙ (let e : length (replicate (suc n) m) + length t ≡ left = omega (arith, length-replicate (suc n) m, w.long, f.most) in e);
  starts = refl;
}

pub runs_written : (most : ℕ) (m : Bool) (left at : ℕ) (bytes : List ℕ) (ms : List Bool) (at' : ℕ) (rest : List ℕ) → Bytes bytes → later_runs_at most m left at bytes ≡ got ms at' rest → RunsWritten m left ms bytes rest
unfolding later_runs_at
runs_written zero m zero at bytes ms at' rest b e = subst (λ l. RunsWritten m 0 l bytes rest) (got_value e) (record { whole = got_rest e; long = refl; starts = tt })
runs_written (suc most) m zero at bytes ms at' rest b e = subst (λ l. RunsWritten m 0 l bytes rest) (got_value e) (record { whole = got_rest e; long = refl; starts = tt })
runs_written zero m (suc left) at bytes ms at' rest b e = absurd (never_refused e)
runs_written (suc most) m (suc left) at bytes ms at' rest b e =
    let v = via (field_at 1 (suc left) at bytes) (λ run at bytes. mapped (λ ms. replicate run m ++ ms) (later_runs_at most (not m) (suc left - run) at bytes)) ms at' rest e in
    let f = field_written 1 (suc left) at bytes v.value v.place v.bytes b v.came in
    let u = unmapped (λ ms. replicate v.value m ++ ms) (later_runs_at most (not m) (suc left - v.value) v.place v.bytes) ms at' rest v.goes in
    let b' = bytes_after (number v.value) v.bytes (subst Bytes f.whole b) in
    let w = runs_written most (not m) (suc left - v.value) v.place v.bytes u.0 at' rest b' u.1 in
    subst (λ l. RunsWritten m (suc left) l bytes rest) (sym u.2) (run_written m v.value (suc left) u.0 bytes v.bytes rest f w)

-- marks are a run of frozen ones, and from the first active one on the rest
first_active : (ms : List Bool) → 0 < trues ms → (r : ℕ) × (t : List Bool) × (ms ≡ replicate r false ++ (true ∷ t))
first_active [] h = absurd (omega arith)
first_active (true ∷ ms) h = (0, ms, refl)
first_active (false ∷ ms) h = let f = first_active ms h in (suc f.0, f.1, ap (λ l. false ∷ l) f.2)

still_active : (r : ℕ) (t : List Bool) → 0 < trues (replicate r false ++ (true ∷ t))
still_active zero t = omega arith
still_active (suc r) t = still_active r t

split_runs : (r : ℕ) (t : List Bool) → runs (replicate r false ++ (true ∷ t)) ≡ r ∷ runs_from true 1 t
split_runs r t = whole_run r false 0 (true ∷ t) ∙ other_mark false (0 + r) t ∙ ap (λ k. k ∷ runs_from true 1 t) (let e : 0 + r ≡ r = omega arith in e)

split_length : (r : ℕ) (t : List Bool) → length (replicate r false ++ (true ∷ t)) ≡ r + suc (length t)
split_length r t = length-append (replicate r false) (true ∷ t) ∙ ap (λ k. k + suc (length t)) (length-replicate r false)

split_read : (n r : ℕ) (t : List Bool) (at : ℕ) (rest : List ℕ) → n ≡ r + suc (length t) → n ≤ 4096 → Gets (marks_at n at (flat_map number (r ∷ runs_from true 1 t) ++ rest)) (replicate r false ++ (true ∷ t)) rest
split_read n r t at rest e few =
    let f = field_read 0 (n - 1) r at (flat_map number (runs_from true 1 t) ++ rest) (omega arith) (omega arith) (omega arith) in
    let g = runs_read t true 1 (n - r) (n - r) f.0 rest (omega arith) (omega arith) (omega arith) (omega arith) in
    (g.0, rw (joins r (runs_from true 1 t) rest) (marks_first n at _ f.1 ∙ ap (mapped (λ ms. replicate r false ++ ms)) g.1))

pub marks_read : (ms : List Bool) (at : ℕ) (rest : List ℕ) → length ms ≤ 4096 → 0 < trues ms → Gets (marks_at (length ms) at (flat_map number (runs ms) ++ rest)) ms rest
marks_read ms at rest few h =
    let f = first_active ms h in
    let P : List Bool → Type 0 = λ l. length l ≤ 4096 → Gets (marks_at (length l) at (flat_map number (runs l) ++ rest)) l rest in
    subst P (sym f.2)
    (λ few. rw (split_runs f.0 f.1) (split_read (length (replicate f.0 false ++ (true ∷ f.1))) f.0 f.1 at rest (split_length f.0 f.1) few)) few

pub record MarksWritten (n : ℕ) (ms : List Bool) (bytes rest : List ℕ) : Type 0 where
  pub whole : bytes ≡ flat_map number (runs ms) ++ rest
  pub long : length ms ≡ n
  pub active : 0 < trues ms

split_written : (n r : ℕ) (t : List Bool) (bytes bytes' rest : List ℕ) → 1 ≤ n → FieldWritten 0 (n - 1) r bytes bytes' → RunsWritten true (n - r) t bytes' rest → MarksWritten n (replicate r false ++ t) bytes rest
split_written n r [] bytes bytes' rest some f w = absurd (omega (arith, w.long, f.most))
split_written n r (x ∷ t) bytes bytes' rest some f w =
    let P : Bool → Type 0 = λ y. bytes' ≡ flat_map number (runs_from y 1 t) ++ rest in
    subst (λ y. MarksWritten n (replicate r false ++ (y ∷ t)) bytes rest) (sym w.starts) (record {
      whole = f.whole ∙ ap (λ l. number r ++ l) (subst P w.starts w.whole) ∙ sym (joins r (runs_from true 1 t) rest) ∙ ap (λ ns. flat_map number ns ++ rest) (sym (split_runs r t));
      long = split_length r t ∙ (let e : r + suc (length t) ≡ n = omega (arith, w.long, f.most) in e);
      active = still_active r t;
    })

pub marks_written : (n at : ℕ) (bytes : List ℕ) (ms : List Bool) (at' : ℕ) (rest : List ℕ) → 1 ≤ n → Bytes bytes → marks_at n at bytes ≡ got ms at' rest → MarksWritten n ms bytes rest
unfolding marks_at
marks_written n at bytes ms at' rest some b e =
    let v = via (field_at 0 (n - 1) at bytes) (λ run at bytes. mapped (λ ms. replicate run false ++ ms) (later_runs_at (n - run) true (n - run) at bytes)) ms at' rest e in
    let f = field_written 0 (n - 1) at bytes v.value v.place v.bytes b v.came in
    let u = unmapped (λ ms. replicate v.value false ++ ms) (later_runs_at (n - v.value) true (n - v.value) v.place v.bytes) ms at' rest v.goes in
    let b' = bytes_after (number v.value) v.bytes (subst Bytes f.whole b) in
    let w = runs_written (n - v.value) true (n - v.value) v.place v.bytes u.0 at' rest b' u.1 in
    subst (λ l. MarksWritten n l bytes rest) (sym u.2) (split_written n v.value u.0 bytes v.bytes rest some f w)

-- whole contents
-- the stored form, field by field, and then `rest`
abbrev pub parts : ℕ → ℕ → Content → List ℕ → List ℕ
parts first n c rest = number first ++ (number n ++ (number c.exponent ++ (flat_map number (runs c.marks) ++ (flat_map number (map code c.counts) ++ rest))))

in_parts_then : (top : ℕ) (c : Content) (rest : List ℕ) → stored top c ++ rest ≡ parts (version top) (length c.marks) c rest
unfolding stored fields
in_parts_then top c rest =
    let coded = map code c.counts in
    let n = length c.marks in
    let k = c.exponent in
    joins (version top) (n ∷ k ∷ (runs c.marks ++ coded)) rest
    ∙ ap (λ l. number (version top) ++ l) (joins n (k ∷ (runs c.marks ++ coded)) rest
    ∙ ap (λ l. number n ++ l) (joins k (runs c.marks ++ coded) rest
    ∙ ap (λ l. number k ++ l) (ap (λ l. l ++ rest) (flat_map-append number (runs c.marks) coded) ∙ append_assoc (flat_map number (runs c.marks)) (flat_map number coded) rest)))

pub in_parts : (top : ℕ) (c : Content) → stored top c ≡ parts (version top) (length c.marks) c []
in_parts top c = sym (append-nil (stored top c)) ∙ in_parts_then top c []

pub version_small : (top : ℕ) → version top ≤ 2
version_small top = cond_both (leb top top_count) 1 2 (λ n. n ≤ 2) (λ _. omega arith) (λ _. omega arith)

content_read : (top : ℕ) (c : Content) → top < 2 ^ 20 → Sound top c → Gets (content_at top 0 (stored top c)) c []
unfolding content_at
content_read top c few s =
    let ms = c.marks in
    let vs = c.counts in
    let k = c.exponent in
    let first = version top in
    let counted = flat_map number (map code vs) ++ [] in
    let marked = flat_map number (runs ms) ++ counted in
    let r₁ = field_read first first first 0 (number (length ms) ++ (number k ++ marked)) (omega (arith, version_small top)) (omega arith) (omega arith) in
    let r₂ = field_read 1 4096 (length ms) r₁.0 (number k ++ marked) (omega (arith, s.short)) s.some s.short in
    let r₃ = field_read 0 6 k r₂.0 marked (omega (arith, s.scaled)) (omega arith) s.scaled in
    let r₄ = marks_read ms r₃.0 counted s.short s.active in
    let r₅ = counts_read top vs r₄.0 [] few s.small in
    let e : counts_at top (length ms) r₄.0 counted ≡ got vs r₅.0 [] = ap (λ n. counts_at top n r₄.0 counted) (sym s.paired) ∙ r₅.1 in
    (r₅.0, ap (content_at top 0) (in_parts top c) ∙ (then_got _ r₁.1 ∙ then_got _ r₂.1 ∙ then_got _ r₃.1 ∙ then_got _ r₄.1 ∙ then_got _ e))

pub loads_what_is_stored : (top : ℕ) → top < 2 ^ 20 → LoadsWhatIsStored top
unfolding outcome
loads_what_is_stored top few c s = ap ended (content_read top c few s).1

record ContentWritten (top : ℕ) (c : Content) (bytes rest : List ℕ) : Type 0 where
  pub whole : bytes ≡ stored top c ++ rest
  pub sound : Sound top c

-- the parts of a content, read one after another
content_whole : (top : ℕ) (c : Content) (ms : List Bool) (vs : List ℤ) (v n k at at' : ℕ) (bytes b₁ b₂ b₃ b₄ b₅ rest : List ℕ)
    → FieldWritten (version top) (version top) v bytes b₁ → FieldWritten 1 4096 n b₁ b₂ → FieldWritten 0 6 k b₂ b₃ → MarksWritten n ms b₃ b₄ → CountsWritten top n vs b₄ b₅
    → got (content_of ms vs k) at b₅ ≡ got c at' rest → ContentWritten top c bytes rest
content_whole top c ms vs v n k at at' bytes b₁ b₂ b₃ b₄ b₅ rest f₁ f₂ f₃ f₄ f₅ e =
    let first : v ≡ version top = omega (arith, f₁.least, f₁.most) in
    let long : n ≡ length ms = sym f₄.long in
    subst (λ c. ContentWritten top c bytes rest) (got_value e) (record {
      whole = f₁.whole ∙ ap (λ l. number v ++ l) (f₂.whole ∙ ap (λ l. number n ++ l) (f₃.whole ∙ ap (λ l. number k ++ l) (f₄.whole ∙ ap (λ l. flat_map number (runs ms) ++ l) f₅.whole)))
          ∙ (λ i. parts (first i) (long i) (content_of ms vs k) (got_rest e i))
          ∙ sym (in_parts_then top (content_of ms vs k) rest);
      sound = record {
        some = subst (λ n. 1 ≤ n) long f₂.least;
        short = subst (λ n. n ≤ 4096) long f₂.most;
        active = f₄.active;
        paired = f₅.long ∙ long;
        small = f₅.small;
        scaled = f₃.most;
      };
    })

content_written : (top at : ℕ) (bytes : List ℕ) (c : Content) (at' : ℕ) (rest : List ℕ) → Bytes bytes → content_at top at bytes ≡ got c at' rest → ContentWritten top c bytes rest
unfolding content_at
content_written top at bytes c at' rest b e =
    let v₁ = via (field_at (version top) (version top) at bytes) _ c at' rest e in
    let f₁ = field_written (version top) (version top) at bytes v₁.value v₁.place v₁.bytes b v₁.came in
    let b₁ = bytes_after (number v₁.value) v₁.bytes (subst Bytes f₁.whole b) in
    let v₂ = via (field_at 1 4096 v₁.place v₁.bytes) _ c at' rest v₁.goes in
    let f₂ = field_written 1 4096 v₁.place v₁.bytes v₂.value v₂.place v₂.bytes b₁ v₂.came in
    let b₂ = bytes_after (number v₂.value) v₂.bytes (subst Bytes f₂.whole b₁) in
    let v₃ = via (field_at 0 6 v₂.place v₂.bytes) _ c at' rest v₂.goes in
    let f₃ = field_written 0 6 v₂.place v₂.bytes v₃.value v₃.place v₃.bytes b₂ v₃.came in
    let b₃ = bytes_after (number v₃.value) v₃.bytes (subst Bytes f₃.whole b₂) in
    let v₄ = via (marks_at v₂.value v₃.place v₃.bytes) _ c at' rest v₃.goes in
    let f₄ = marks_written v₂.value v₃.place v₃.bytes v₄.value v₄.place v₄.bytes f₂.least b₃ v₄.came in
    let b₄ = bytes_after (flat_map number (runs v₄.value)) v₄.bytes (subst Bytes f₄.whole b₃) in
    let v₅ = via (counts_at top v₂.value v₄.place v₄.bytes) _ c at' rest v₄.goes in
    let f₅ = counts_written top v₂.value v₄.place v₄.bytes v₅.value v₅.place v₅.bytes b₄ v₅.came in
    content_whole top c v₄.value v₅.value v₁.value v₂.value v₃.value v₅.place at' bytes v₁.bytes v₂.bytes v₃.bytes v₄.bytes v₅.bytes rest f₁ f₂ f₃ f₄ f₅ v₅.goes

ended_ok : {A : Type 0} (r : Read A) (x : A) → ended r ≡ Ok x → Gets r x []
ended_ok (got y at []) x e = (at, cc)
ended_ok (got y at (b ∷ bytes)) x e = cc
ended_ok (refused r) x e = cc

pub accepts_only_what_is_stored : (top : ℕ) → AcceptsOnlyWhatIsStored top
unfolding outcome
accepts_only_what_is_stored top bytes c b e =
    let g = ended_ok (content_at top 0 bytes) c e in
    let w = content_written top 0 bytes c g.0 [] b g.1 in
    (w.sound, w.whole ∙ append-nil _)
