use Rattle.std.proofs.Common.{◌≡◌, ◌+◌, true, false, take, set, replicate, sym, ap, ◌∙◌, ap₂, arith}
use native.Mathlib.Nat.{sub-zero}
use lib.LanesLaws.{map-replicate}
use Rattle.std.proofs.lemmas.List.{map-set}
use Rattle.polar.specs.Words.{trues}
use Rattle.polar.specs.Bytes.{byte, bytes}
use Rattle.polar.specs.Marks.{single}
use Rattle.polar.proofs.Active.{trues_take_more, trues_take_bound}
use Rattle.analyser.proofs.Lightest.{leaf_word_is}
use Rattle.analyser.proofs.worst.put_leaf_word.Goals as goal
use Rattle.analyser.proofs.worst.put_leaf_word.Goals.{After-count_ones}

-- the number of the leaf's datum
datum : (c : After-count_ones) → c.count_ones.result ≡ trues (take c.args.leaf c.args.marks.now)
datum c = c.count_ones.ensures ∙ ap (λ n. trues (take n c.args.marks.now)) (sub-zero c.args.leaf)

pub bounds-word-count_ones : goal.bounds-word-count_ones
bounds-word-count_ones c =
    let marks = c.args.marks.now in
    let leaf = c.args.leaf in
    omega (arith, datum c, trues_take_more marks leaf true c.requires.within c.requires.active, trues_take_bound marks (leaf + 1), c.fill.ensures.len, c.requires.all_data)

pub returns : goal.returns
returns c =
    let marks = c.args.marks.now in
    let leaf = c.args.leaf in
    let n = trues marks in
    let k = trues (take leaf marks) in
    let zero : c.fill.new.self ≡ replicate n 0 = c.fill.ensures.after (λ y e. e) ∙ ap (λ m. replicate m 0) c.requires.all_data in
    let is : bytes (single n k) ≡ set (replicate n 0) k 1 = map-set byte (replicate n false) k true ∙ ap (λ z. set z k 1) (map-replicate byte n false) in
    ap₂ (λ z d. set z d 1) zero (datum c) ∙ sym is ∙ ap bytes (sym (leaf_word_is marks leaf c.requires.active))
