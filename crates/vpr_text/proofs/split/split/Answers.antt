use Rattle.std.proofs.Common.{◌≡◌, ◌∙◌, ◌+◌, ◌++◌, length, sym, ap, subst, arith}
use Rattle.vpr_text.specs.kept.Split.{entry_if}
use Rattle.vpr_text.proofs.Joining.{IsJoined, IsJoined-begin, IsJoined-more, IsJoined-closed, IsJoined-ends, take_line}
use Rattle.vpr_text.proofs.split.split.Goals as goal

pub loop-at-init : goal.loop-at-init
loop-at-init c = rw (c.new-ranges.ensures.items, c.new-entries.ensures.items) (IsJoined-begin c.args.source.now)

pub push_entry-requires : goal.push_entry-requires
push_entry-requires c =
    let len = c.push_line.new.ranges.ok.0 in
    let t = take_line c.args.source.now c.loop-at.ranges.items c.push_line.new.ranges.items c.loop-at.entries.items c.loop-at.first c.loop-at.«open» c.loop-at.number c.loop-at.at c.find-end.result
    c.in_ok-goes_on.goes_on c.loop-at-test.true c.find-end.ensures.found c.find-end.ensures.in_part c.loop-at.invariant c.in_ok-goes_on.ensures in
    let few = t.few in
    omega arith

pub loop-at-preserved-then-not-goes_on : goal.loop-at-preserved-then-not-goes_on
loop-at-preserved-then-not-goes_on c =
    let ranges = c.push_line.new.ranges in
    let len : c.len-first.result ≡ length ranges.items = c.len-first.ensures ∙ ranges.ok.0 in
    let same : c.len.result ≡ length ranges.items = c.len.ensures ∙ ranges.ok.0 in
    let t = take_line c.args.source.now c.loop-at.ranges.items ranges.items c.loop-at.entries.items c.loop-at.first c.loop-at.«open» c.loop-at.number c.loop-at.at c.find-end.result
    c.in_ok-goes_on.goes_on c.loop-at-test.true c.find-end.ensures.found c.find-end.ensures.in_part c.loop-at.invariant c.in_ok-goes_on.ensures in
    let closed = rw c.if-not-goes_on.true at t in
    subst (λ n. IsJoined c.args.source.now ranges.items c.push_entry.new.entries.items n (c.loop-at.number + 1) (c.loop-at.number + 1) (c.find-end.result + 1)) (sym len)
    (IsJoined-closed c.args.source.now c.loop-at.ranges.items ranges.items c.loop-at.entries.items c.push_entry.new.entries.items c.loop-at.first c.loop-at.«open» c.loop-at.number c.loop-at.at c.find-end.result
    c.loop-at.invariant closed (c.in_ok-push_entry.ensures ∙ ap (λ n. c.loop-at.entries.items ++ entry_if c.loop-at.«open» c.loop-at.first n) same))

pub loop-at-preserved : goal.loop-at-preserved
loop-at-preserved c =
    let ranges = c.push_line.new.ranges in
    let t = take_line c.args.source.now c.loop-at.ranges.items ranges.items c.loop-at.entries.items c.loop-at.first c.loop-at.«open» c.loop-at.number c.loop-at.at c.find-end.result
    c.in_ok-goes_on.goes_on c.loop-at-test.true c.find-end.ensures.found c.find-end.ensures.in_part c.loop-at.invariant c.in_ok-goes_on.ensures in
    let more = rw c.if-not-goes_on.false at t in
    IsJoined-more c.args.source.now c.loop-at.ranges.items ranges.items c.loop-at.entries.items c.loop-at.first c.loop-at.«open» c.loop-at.number c.loop-at.at c.find-end.result c.loop-at.invariant more

pub from_parts-requires : goal.from_parts-requires
from_parts-requires c =
    let same : c.len-2.result ≡ length c.loop-at.ranges.items = c.len-2.ensures ∙ c.loop-at.ranges.ok.0 in
    (IsJoined-ends c.args.source.now c.loop-at.ranges.items c.loop-at.entries.items c.push_entry-2.new.entries.items c.loop-at.first c.loop-at.«open» c.loop-at.number c.loop-at.at
    c.loop-at-test.false c.loop-at.invariant (c.in_ok-push_entry-2.ensures ∙ ap (λ n. c.loop-at.entries.items ++ entry_if c.loop-at.«open» c.loop-at.first n) same)).kept

pub returns : goal.returns
returns c =
    let same : c.len-2.result ≡ length c.loop-at.ranges.items = c.len-2.ensures ∙ c.loop-at.ranges.ok.0 in
    c.from_parts.ensures ∙ (IsJoined-ends c.args.source.now c.loop-at.ranges.items c.loop-at.entries.items c.push_entry-2.new.entries.items c.loop-at.first c.loop-at.«open» c.loop-at.number c.loop-at.at
    c.loop-at-test.false c.loop-at.invariant (c.in_ok-push_entry-2.ensures ∙ ap (λ n. c.loop-at.entries.items ++ entry_if c.loop-at.«open» c.loop-at.first n) same)).lines
