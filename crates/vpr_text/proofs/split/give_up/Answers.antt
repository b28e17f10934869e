use Rattle.std.proofs.Common.{◌<◌, ◌-◌, ◌∙◌, arith}
use Rattle.std.proofs.lemmas.Bool.{eq-eqb, ne_eqb}
use Rattle.vpr_text.proofs.Splitting.{has_last, GivesUp-no, GivesUp-yes, last_dropped, last_shortened}
use Rattle.vpr_text.proofs.split.give_up.Goals as goal

pub returns-then-source-end-ne-BACKSLASH : goal.returns-then-source-end-ne-BACKSLASH
returns-then-source-end-ne-BACKSLASH c =
    let old = c.args.ranges.now in
    let len = old.ok.0 in
    let h = has_last c.args.source.now old.items c.args.first (c.len-last.result - 1) c.index-range.result.now (omega arith) (omega arith) c.index-range.ensures c.requires.fits in
    GivesUp-no c.args.source.now old.items c.args.first (c.len-last.result - 1) c.index-range.result.now h (ne_eqb _ _ c.if-source-end-ne-BACKSLASH.true)

pub returns-then-range-end : goal.returns-then-range-end
returns-then-range-end c =
    let old = c.args.ranges.now in
    let len = old.ok.0 in
    let r = c.index-range.result.now in
    let h = has_last c.args.source.now old.items c.args.first (c.len-last.result - 1) r (omega arith) (omega arith) c.index-range.ensures c.requires.fits in
    GivesUp-yes c.args.source.now old.items c.truncate.new.self.items c.args.first (c.len-last.result - 1) r h (eq-eqb _ _ c.if-source-end-ne-BACKSLASH.false)
    (c.truncate.ensures.items ∙ last_dropped old.items (c.len-last.result - 1) r c.if-range-end.true)

pub returns-else-range-end : goal.returns-else-range-end
returns-else-range-end c =
    let old = c.args.ranges.now in
    let len = old.ok.0 in
    let r = c.index-range.result.now in
    let h = has_last c.args.source.now old.items c.args.first (c.len-last.result - 1) r (omega arith) (omega arith) c.index-range.ensures c.requires.fits in
    let lt : r.start < r.end - 1 = (let f = h.last_fits.0 in omega arith) in
    GivesUp-yes c.args.source.now old.items _ c.args.first (c.len-last.result - 1) r h (eq-eqb _ _ c.if-source-end-ne-BACKSLASH.false)
    (last_shortened old.items (c.len-last.result - 1) r (omega arith) lt)
