use Rattle.std.proofs.Common.{◌≡◌, ◌<◌, None, true, length, get_or, ap, sym, subst}
use Rattle.place_file.specs.kept.OccupiedSites.{is_in_table}
use Rattle.place_file.proofs.Placing.{entry_parts, one_taken}
use Rattle.place_file.proofs.sites.Sites.put.Goals as goal

pub entry_of-entry-requires-clause-few : goal.entry_of-entry-requires-clause-few
entry_of-entry-requires-clause-few c = (entry_parts c.self.inside.array c.args.site c.self.invariant.0 (subst (λ a. is_in_table a c.args.site ≡ true) (sym (ap (λ s. s.array) c.self.view_is)) c.requires.table)).0

pub invariant_of-self : goal.invariant_of-self
invariant_of-self c =
    let sites = c.self.inside.blocks.items in
    let same = ap (λ s. s.sites) c.self.view_is in
    let array = ap (λ s. s.array) c.self.view_is in
    let within = subst (λ xs. c.args.block < length xs) (sym same) c.requires.within in
    let free = subst (λ xs. get_or xs c.args.block None ≡ None) (sym same) c.requires.free in
    let table = subst (λ a. is_in_table a c.args.site ≡ true) (sym array) c.requires.table in
    (c.self.invariant.0, one_taken c.self.inside.array sites c.self.inside.taken.items c.args.block c.args.site c.entry_of-entry.result c.entry_of-entry.ensures c.self.invariant.1 within free table)
