use Rattle.std.proofs.Common.{◌≡◌, ◌++◌, length, drop, ap, ◌∙◌}
use lib.ListN.{length-map}
use Rattle.polar.specs.Words.{trues}
use Rattle.polar.specs.Bytes.{bit, bits, bytes}
use Rattle.polar.specs.Codewords.{codeword}
use Rattle.polar.specs.Plans.{marks_of}
use Rattle.polar.proofs.PlanFacts.{sized}
use Rattle.polar.proofs.Codes.{written_encodes}
use Rattle.polar.proofs.code.encode.Goals as goal

pub returns-clause-encodes : goal.returns-clause-encodes
returns-clause-encodes c =
    let plan = c.args.plan.now in
    let ms = marks_of plan in
    let ds = bits c.args.«data».now in
    let same = c.marks-marks.ensures in
    let word : c.put_codeword.new.word ≡ codeword ms ds = c.put_codeword.ensures ∙ ap (λ m. codeword m ds) same in
    let count : length ds ≡ trues ms = length-map c.args.«data».now bit ∙ c.if-data-active.false ∙ c.active.ensures in
    let out : c.write_bytes.new.out ≡ bytes (codeword ms ds) ++ drop (length c.put_codeword.new.word) c.args.out.now =
    c.write_bytes.ensures ∙ ap (λ w. bytes w ++ drop (length c.put_codeword.new.word) c.args.out.now) word in
    rw out (written_encodes ms ds (drop (length c.put_codeword.new.word) c.args.out.now) (length c.marks-marks.result.now) (sized plan).0 count (ap length same))
