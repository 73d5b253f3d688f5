-- A kind carried over keeps its rules where what fits is read back as it was written, and a score its fairness. Assumes nothing.
use Rattle.std.specs.Prelude.{◌≡◌, ℕ, ◌+◌, ◌≤◌, T}
use Rattle.std.proofs.Common.{arith}
use Rattle.polar.specs.Words.{xor}
use Rattle.soft.specs.Kind.{Kind, Rules, Score, AllFair}
use Rattle.soft.specs.Carried.{carried, carried_score}

-- each value that fits is read back as it was written
abbrev pub ReadBack : {A B : Type 0} → (A → B) → (B → A) → Kind B → Type 0
ReadBack {B = B} read write kind = (v : B) (r : ℕ) → r ≤ 12 → T (kind.fitting v r) → read (write v) ≡ v

module _ {A B : Type 0} (read : A → B) (write : B → A) (kind : Kind B) where
  pub carried_rules : ReadBack read write kind → Rules kind → Rules (carried read write kind)
  carried_rules back rules = record {
    unit_least = rules.unit_least;
    unit_most = rules.unit_most;
    compared_fits = λ v w r small p q.
        let fit = rules.compared_fits (read v) (read w) r small p q in
        rw (back _ r small fit) fit;
    compared_short = λ v w b c r small p q.
        let fit = rules.compared_fits (read v) (read w) r small p q in
        rw (back _ r small fit) (rules.compared_short (read v) (read w) b c r small p q);
    joined_fits = λ v w b r small p q.
        let fit = rules.joined_fits (read v) (read w) b r small p q in
        rw (back _ (r + 1) (omega arith) fit) fit;
    joined_short = λ v w b c r small p q.
        let fit = rules.joined_fits (read v) (read w) (xor b c) r small p q in
        rw (back _ (r + 1) (omega arith) fit) (rules.joined_short (read v) (read w) b c r small p q);
    decided_sure = λ v. rules.decided_sure (read v);
  }

  pub carried_fair : (score : Score B) → AllFair kind score → AllFair (carried read write kind) (carried_score read score)
  carried_fair score fair v b r small p =
      let f = fair (read v) b r small p in
      record { apart = f.apart; within = f.within; favours = f.favours }
