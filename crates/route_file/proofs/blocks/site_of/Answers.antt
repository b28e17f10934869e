use Rattle.std.proofs.Common.{ap, ◌∙◌}
use Rattle.std.specs.Option.{unwrap_or}
use Rattle.std.proofs.lemmas.Option.{unwrap_or-slice_get}
use Rattle.route_file.specs.Text.{no_site}
use Rattle.route_file.proofs.blocks.site_of.Goals as goal

pub returns : goal.returns
returns c =
    c.unwrap_or.ensures ∙ (ap (λ o. unwrap_or o no_site) c.site.ensures ∙ unwrap_or-slice_get c.args.placement.now.sites c.args.number no_site)
