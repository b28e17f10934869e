-- What the fields of settings and views mean.
use Rattle.std.specs.Prelude.{◌≡◌, ℕ, ◌+◌, ◌/◌, ◌≤◌, ◌^◌, All, Bool, List, length, Some, None}
use Rattle.std.specs.List.{zip}
use Rattle.std.specs.Arc.{arc_value}
use Rattle.node_cost.specs.Options.{RouterOptions}
use Rattle.node_cost.specs.declared.settings.Settings.TheInside as settings
use Rattle.node_cost.specs.declared.shared.SharedHistories.TheInside as shared
use Rattle.node_cost.specs.declared.view.BorrowedView.TheInside as lent
use Rattle.node_cost.specs.declared.view.View.TheInside as view
use Rattle.node_cost.specs.kept.Noted.{IsFlagged}
use Rattle.node_cost.specs.kept.Packed.{IsFull, IsMarked, counts_of}

abbrev pub options_of : settings.Inside → RouterOptions
options_of s = record { first = s.first; init = s.init; mult = s.mult; acc = s.acc; bb = s.bb; iterations = s.iterations; steady = s.is_steady }

-- the histories that are shared, or else its own
abbrev pub histories_of : shared.Inside → List ℕ
histories_of h = elim h.shared [ Some shared ↦ arc_value shared | None ↦ h.own ]

abbrev pub seen_by : view.Inside → List (ℕ × ℕ)
seen_by v = zip (counts_of v.words.items v.wide.items) v.histories

-- packed counts whose flags are those of the histories
pub record AreSeen (words wide : List ℕ) (marks : List Bool) (histories : List ℕ) : Type 0 where
  pub each : length words ≡ length wide / 16 + 1
  pub blocks : length marks ≡ length wide / 1024 + 1
  pub marked : IsMarked words marks
  pub full : IsFull words wide
  pub size : length histories ≡ length wide
  pub flagged : IsFlagged histories words
  pub bounded : All (λ n. n ≤ 65535) (counts_of words wide)

abbrev pub lent_by : lent.Inside → List (ℕ × ℕ)
lent_by v = zip (counts_of v.words.now v.wide.now) v.histories.now

pub record IsLent (v : lent.Inside) : Type 0 where
  pub each : length v.words.now ≡ length v.wide.now / 16 + 1
  pub full : IsFull v.words.now v.wide.now
  pub size : length v.histories.now ≡ length v.wide.now
  pub flagged : IsFlagged v.histories.now v.words.now
  pub bounded : All (λ k. k ≤ 2 ^ 42) v.histories.now
