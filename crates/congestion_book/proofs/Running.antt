-- Lists of events, one event more.
use Rattle.std.proofs.Common.{◌≡◌, List, [], ◌∷◌, ◌++◌, refl, subst}
use Rattle.congestion_book.specs.declared.events.Event.{Event}
use Rattle.congestion_book.specs.declared.events.Reply.{Reply}
use Rattle.congestion_book.specs.Contents.{Content, IsSound}
use Rattle.node_cost.specs.Views.{NetView}
use Rattle.congestion_book.specs.Runs.{Steps, Runs}

runs_alike : (old new mid : Content) (seen sees shown : NetView) (e : Event) (r : Reply) → (mid ≡ old) × (shown ≡ seen) → Steps mid shown e r new sees → Steps old seen e r new sees
runs_alike old new mid seen sees shown e r same step = subst (λ k. Steps k seen e r new sees) same.0 (subst (λ s. Steps mid s e r new sees) same.1 step)

pub runs_more : (es : List Event) (rs : List Reply) (old mid new : Content) (seen shown sees : NetView) (e : Event) (r : Reply) →
    Runs old seen es rs mid shown → Steps mid shown e r new sees → IsSound new → Runs old seen (es ++ e ∷ []) (rs ++ r ∷ []) new sees
runs_more [] [] old mid new seen shown sees e r runs step sound = (new, sees, runs_alike old new mid seen sees shown e r runs step, sound, (refl, refl))
runs_more [] (q ∷ qs) old mid new seen shown sees e r runs step sound = absurd runs
runs_more (f ∷ fs) [] old mid new seen shown sees e r runs step sound = absurd runs
runs_more (f ∷ fs) (q ∷ qs) old mid new seen shown sees e r runs step sound =
    (runs.0, runs.1, runs.2, runs.3, runs_more fs qs runs.0 mid new runs.1 shown sees e r runs.4 step sound)
