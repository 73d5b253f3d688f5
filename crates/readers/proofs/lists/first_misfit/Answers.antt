use Rattle.std.proofs.Common.{sym, ◌∙◌}
use Rattle.readers.proofs.Listing.{first_unfit_is, none_unfit}
use Rattle.readers.proofs.lists.first_misfit.Goals as goal

pub returns-then-all_fit : goal.returns-then-all_fit
returns-then-all_fit g c = sym (none_unfit g.K.Soft.kind c.args.values.now (sym c.all_fit.ensures ∙ c.if-all_fit.true))

pub returns-else-all_fit : goal.returns-else-all_fit
returns-else-all_fit g c = c.find_misfit.ensures ∙ sym (first_unfit_is g.K.Soft.kind c.args.values.now)
