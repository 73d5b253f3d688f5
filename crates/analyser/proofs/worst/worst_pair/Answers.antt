use Rattle.std.proofs.Common.{◌≡◌, ◌-◌, false, ◌++◌, length, take, drop, replicate, sym, ap, ◌∙◌, subst, arith, length-take-le}
use native.Mathlib.Nat.{sub-zero}
use borrow.Rule.Slice.PartMut.{post_of}
use lib.LanesLaws.{map-replicate}
use Rattle.polar.specs.Words.{trues}
use Rattle.polar.specs.Bytes.{byte, bits, bytes}
use Rattle.polar.specs.Codewords.{codeword}
use Rattle.polar.specs.Plans.{marks_of}
use Rattle.polar.proofs.Codes.{bits_bytes}
use Rattle.captures.specs.Tops.{top_count}
use Rattle.analyser.specs.Worst.{plan_weight, FirstLightest, zero_word, leaf_word, places_of, WorstWritten}
use Rattle.analyser.proofs.Lightest.{first_weighs}
use Rattle.analyser.proofs.Rows.{all_bits_bytes, nothing_due, row_is, written_tight}
use Rattle.analyser.proofs.worst.worst_pair.Goals as goal
use Rattle.analyser.proofs.worst.worst_pair.Goals.{After-first_lightest-leaf, After-fill, After-put_leaf_word}

light : (c : After-first_lightest-leaf) → FirstLightest (marks_of c.args.plan.now) c.first_lightest-leaf.result
light c = subst (λ ms. FirstLightest ms c.first_lightest-leaf.result) c.marks-marks.ensures c.first_lightest-leaf.ensures

-- the two words
zeros_are : (c : After-fill) → c.fill.new.self ≡ bytes (zero_word (marks_of c.args.plan.now))
zeros_are c =
    let k = c.active-active.result in
    let size : length (take (k - 0) c.args.one.now) ≡ k = ap (λ n. length (take n c.args.one.now)) (sub-zero k) ∙ length-take-le k c.args.one.now (omega arith) in
    c.fill.ensures.after (λ y e. e) ∙ ap (λ n. replicate n 0) (size ∙ c.active-active.ensures) ∙ sym (map-replicate byte (trues (marks_of c.args.plan.now)) false)

word_is : (c : After-put_leaf_word) → c.put_leaf_word.new.word ≡ bytes (leaf_word (marks_of c.args.plan.now) c.first_lightest-leaf.result)
word_is c = c.put_leaf_word.ensures ∙ ap (λ ms. bytes (leaf_word ms c.first_lightest-leaf.result)) c.marks-marks.ensures

-- the codeword of the word that was written
codeword_is : (c : After-put_leaf_word) → codeword (marks_of c.args.plan.now) (bits c.put_leaf_word.new.word) ≡ codeword (marks_of c.args.plan.now) (leaf_word (marks_of c.args.plan.now) c.first_lightest-leaf.result)
codeword_is c = ap (λ w. codeword (marks_of c.args.plan.now) w) (ap bits (word_is c) ∙ bits_bytes _)

pub write_codeword_places-requires-clause-all_bits : goal.write_codeword_places-requires-clause-all_bits
write_codeword_places-requires-clause-all_bits c = rw (word_is (goal.at.write_codeword_places-requires-clause-all_bits c).After-put_leaf_word) (all_bits_bytes (leaf_word (marks_of c.args.plan.now) c.first_lightest-leaf.result))

pub write_codeword_places-requires-clause-room : goal.write_codeword_places-requires-clause-room
write_codeword_places-requires-clause-room c =
    let at = (goal.at.write_codeword_places-requires-clause-room c).After-put_leaf_word in
    let ms = marks_of c.args.plan.now in
    let leaf = c.first_lightest-leaf.result in
    let many : trues (codeword ms (bits c.put_leaf_word.new.word)) ≡ c.weight-weight.result =
    ap trues (codeword_is at) ∙ first_weighs ms leaf (light (goal.at.write_codeword_places-requires-clause-room c).After-first_lightest-leaf) ∙ sym c.weight-weight.ensures.value in
    omega (arith, many, c.if-places-weight.false)

pub returns : goal.returns
returns c =
    let at = (goal.at.returns c).After-put_leaf_word in
    let ms = marks_of c.args.plan.now in
    let leaf = c.first_lightest-leaf.result in
    let first = light (goal.at.returns c).After-first_lightest-leaf in
    let k = c.active-active.result in
    let n = c.weight-weight.result in
    let active : k ≡ trues ms = c.active-active.ensures in
    let weight : n ≡ plan_weight ms = c.weight-weight.ensures.value in
    let old = c.args.places.now in
    let found = codeword ms (leaf_word ms leaf) in
    let many : trues found ≡ n = first_weighs ms leaf first ∙ sym weight in
    let one = c.fill.new.self ++ post_of 0 (k - 0) c.args.one.now in
    let other = c.put_leaf_word.new.word ++ post_of 0 (k - 0) c.args.other.now in
    let written : WorstWritten ms c.args.one.now c.args.other.now old n one other c.write_codeword_places.new.places = record {
      leaf = leaf;
      is_first = first;
      answer = weight;
      one_is = row_is k (trues ms) c.fill.new.self c.args.one.now (zero_word ms) active (zeros_are (goal.at.returns c).After-fill);
      other_is = row_is k (trues ms) c.put_leaf_word.new.word c.args.other.now (leaf_word ms leaf) active (word_is at);
      places_is = c.write_codeword_places.ensures ∙ ap (λ w. places_of w ++ drop (trues w) old) (codeword_is at) ∙ ap (λ m. places_of found ++ drop m old) many;
    } in
    record {
      value = (nothing_due ms (length c.args.one.now) (length c.args.other.now) (length old) (omega arith) (omega arith) (omega arith), written);
      tight = written_tight top_count ms c.args.one.now c.args.other.now old n one other c.write_codeword_places.new.places written;
    }
