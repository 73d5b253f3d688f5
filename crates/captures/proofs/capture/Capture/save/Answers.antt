use Rattle.std.proofs.Common.{vec_items, sym, ◌∙◌, rules}
use Rattle.polar.proofs.PlanFacts.{sized}
use Rattle.storage.specs.Contents.{Sound}
use Rattle.captures.specs.Tops.{top_count}
use Rattle.captures.specs.Captures.{content_in}
use Rattle.captures.specs.Views.{captured}
use Rattle.captures.specs.declared.capture.Capture.{Capture}
use Rattle.captures.proofs.Storing.{small_from_within, saved_is}
use Rattle.captures.proofs.capture.Capture.save.Goals as goal

-- every capture can be stored
sound : (s : Capture) → Sound top_count (content_in (captured s))
sound s =
    let size = sized s.plan in
    record {
      some = size.0;
      short = size.1;
      active = size.2;
      paired = sym s.counts.ok.0 ∙ s.same ∙ s.plan.marks.ok.0;
      small = small_from_within top_count (vec_items s.counts) s.within;
      scaled = s.small;
    }

pub returns-clause-value : goal.returns-clause-value
returns-clause-value c =
    let s = c.args.self.now in
    saved_is top_count (captured s) c.args.out.now c.store.new.out c.store.result (sound s) (search rules)
