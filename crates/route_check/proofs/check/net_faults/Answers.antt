use Rattle.std.proofs.Common.{◌≡◌, ◌<◌, ◌-◌, ◌∙◌, length, ap, subst, arith}
use Rattle.std.specs.List.{AllZip, range_with_len}
use Rattle.rayon.specs.Numbers.{nat_range}
use Rattle.rayon.proofs.ToStd.{nat_range-All}
use Rattle.route_check.proofs.Answering.{AnswersNet, gathered, kept_ok}
use Rattle.route_check.proofs.check.net_faults.Goals as goal

pub collect-requires-clause-ready : goal.collect-requires-clause-ready
collect-requires-clause-ready g c κs =
    let ends = c.into_par_iter.ensures in
    let nets = length c.args.problem.now.nets in
    let inside = nat_range-All (λ i. (i < nets) × (length c.args.lists.now ≡ nets)) 0 c.nets.result
    (λ i low high. (omega (arith, high, c.nets.ensures.count), c.requires)) in
    λ _. rw (c.map.ensures.base, c.map.ensures.f, c.with_min_len.ensures.base, ends.0, ends.1) (λ k d lt. (inside k d lt, λ y q. tt))

pub returns : goal.returns
returns g c =
    let ends = c.into_par_iter.ensures in
    let n = c.nets.result in
    let whole : n - 0 ≡ n = omega arith in
    let h = c.in_ok-collect.ensures in
    let zip : AllZip (AnswersNet c.map.result.f.1.now c.map.result.f.2.now) h.1.0 h.0 = h.1.2 in
    let zipped : AllZip (AnswersNet c.args.problem.now c.args.lists.now) h.1.0 h.0 = rw c.map.ensures.f at zip in
    let bounds = rw (c.map.ensures.base, c.with_min_len.ensures.base) at h.1.1 in
    let places : h.1.0 ≡ range_with_len 0 n = bounds ∙ (λ i. nat_range (ends.0 i) (ends.1 i)) ∙ ap (range_with_len 0) whole in
    let all = subst (λ xs. AllZip (AnswersNet c.args.problem.now c.args.lists.now) xs h.0) places zipped in
    kept_ok c.in_ok-collect.field-0 _ _ _
    (λ v is. gathered c.args.problem.now c.args.lists.now n c.nets.ensures.count h.0 all v.items is) h.2
