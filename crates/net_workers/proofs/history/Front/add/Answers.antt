use Rattle.std.proofs.Common.{◌≡◌, List, [], ◌∷◌, ◌++◌, length, sym, ◌∙◌, ap, arith, eq-eqb, length-append}
use Rattle.std.proofs.lemmas.Bool.Decides.{when_true}
use Rattle.net_workers.specs.declared.made_turn.MadeTurn.{MadeTurn}
use Rattle.net_workers.specs.kept.TurnLogs.{Follows}
use Rattle.net_workers.proofs.Adding.{adds_moves, legal_more}
use Rattle.net_workers.proofs.history.Front.add.Goals as goal

pub compare_exchange-found-requires : goal.compare_exchange-found-requires
compare_exchange-found-requires g c =
    let h = c.args.head.now.head_is in
    let offer = c.plain-offer.ensures in
    let pen = c.no_pen-pen.ensures in
    let again = c.again-seen.ensures in
    let book = ap (λ s. s.book) again ∙ (c.self.invariant.1 ∙ sym (ap (λ w. w.book) h)) in (
      ap (λ w. w.tracked) h,
      book,
      pen.0 ∙ book,
      offer.0,
      rw (ap (λ w. w.key) h, pen.1, offer.1, offer.3) (adds_moves c.again-seen.result.log c.args.turn.now c.self.inside.turns (ap (λ s. length s.log) again ∙ sym c.self.invariant.0)),
    )

pub invariant_of-self : goal.invariant_of-self
invariant_of-self g c =
    let e = c.compare_exchange-found.ensures in
    let again = c.again-seen.ensures in
    let log = c.self.inside.seen.log in
    let turn = c.args.turn.now in
    let now = c.compare_exchange-found.new.seen.log in
    let follows : Follows g.L.Logged.plan log turn = rw c.self.view_is c.requires.legal in
    let found : now ≡ c.again-seen.result.log ++ c.plain-offer.result.ask ∷ [] =
    when_true (now ≡ c.again-seen.result.log ++ c.plain-offer.result.ask ∷ []) (Unit {0}) (eq-eqb _ _ c.if-found-turns.false) e.7
    in
    let more : now ≡ log ++ turn ∷ [] = found ∙ (ap (λ (l : List MadeTurn). l ++ c.plain-offer.result.ask ∷ []) (ap (λ s. s.log) again) ∙ ap (λ (t : MadeTurn). log ++ t ∷ []) c.plain-offer.ensures.1) in (
      omega (arith, ap length more, length-append log (turn ∷ []), c.self.invariant.0),
      e.0 ∙ (ap (λ s. s.book) again ∙ c.self.invariant.1),
      rw more (legal_more g.L.Logged.plan log turn c.self.invariant.2 follows),
    )
