-- Designs that are read, stage by stage.
use Rattle.std.proofs.Common.{◌≡◌, ℕ, true, List, Result, Ok, Err, refl, sym, ap, ◌∙◌}
use Rattle.arch_file.specs.Architecture.{Architecture}
use Rattle.net_file.specs.Netlist.{Netlist}
use Rattle.place_file.specs.Placement.{Placement}
use Rattle.rr_graph.specs.node.Mode.{Mode}
use Rattle.rr_graph.specs.Designs.{problem_from, problem_with, suits_design}
use Rattle.rr_graph.specs.Fabric.{fabric_with}
use Rattle.rr_graph.specs.Problems.{RoutingProblem}
use Rattle.route_file.specs.Design.{IsDesign}
use Rattle.route_file.proofs.DesignProblems.{design_made}
use Rattle.run_inputs.specs.declared.fault.InputFile.TheVariants as file
use Rattle.run_inputs.specs.declared.fault.AppFault.{AppFault}
use Rattle.run_inputs.specs.Runs.{DesignFiles, Input, bytes_in}
use Rattle.vpr_text.specs.Readings.{◌>>=◌}
use Rattle.run_inputs.specs.Inputs.{PlacedNetlist, arch_in, design_in, design_on, netlist_from, netlist_in, placed_in, placed_with, placement_in}
use Rattle.run_inputs.specs.Stages.{NetlistText, design_of, placed_of, text_in}

-- ---- the first stage

module _ (arch net : Input) where
  pub arch_fails : (e : AppFault) → arch_in arch ≡ Err e → text_in arch net ≡ Err e
  unfolding text_in
  arch_fails e h = rw h refl

  pub bytes_fail : (a : Architecture) (e : AppFault) → arch_in arch ≡ Ok a → bytes_in file.Net net ≡ Err e → text_in arch net ≡ Err e
  unfolding text_in
  bytes_fail a e h k = rw (h, k) refl

  pub text_read : (a : Architecture) (bytes : List ℕ) → arch_in arch ≡ Ok a → bytes_in file.Net net ≡ Ok bytes
      → text_in arch net ≡ Ok (record { arch = a; bytes = bytes })
  unfolding text_in
  text_read a bytes h k = rw (h, k) refl

-- ---- the first two stages

two_stages : (a : Result Architecture AppFault) (b : Result (List ℕ) AppFault) (rest : Architecture → Netlist → Result PlacedNetlist AppFault)
    → (a >>= λ x. (b >>= netlist_from x) >>= rest x)
    ≡ ((a >>= λ x. b >>= λ bytes. Ok (record { arch = x; bytes = bytes })) >>= λ (t : NetlistText). netlist_from t.arch t.bytes >>= rest t.arch)
two_stages (Err e) b rest = refl
two_stages (Ok x) (Err e) rest = refl
two_stages (Ok x) (Ok bytes) rest = refl

module _ (files : DesignFiles) where
  by_stages : placed_in files ≡ (text_in files.arch files.net >>= λ t. placed_of t files.place)
  unfolding placed_in netlist_in text_in placed_of
  by_stages =
      two_stages (arch_in files.arch) (bytes_in file.Net files.net)
      (λ a n. placement_in a n files.place >>= λ p. Ok (placed_with a n p))

  pub placing_fails : (e : AppFault) → text_in files.arch files.net ≡ Err e → placed_in files ≡ Err e
  placing_fails e h = by_stages ∙ ap (λ given. given >>= λ t. placed_of t files.place) h

  pub placing_goes : (t : NetlistText) → text_in files.arch files.net ≡ Ok t → placed_in files ≡ placed_of t files.place
  placing_goes t h = by_stages ∙ ap (λ given. given >>= λ t. placed_of t files.place) h

module _ (t : NetlistText) (place : Input) where
  pub netlist_fails : (e : AppFault) → netlist_from t.arch t.bytes ≡ Err e → placed_of t place ≡ Err e
  unfolding placed_of
  netlist_fails e h = rw h refl

  pub placement_fails : (n : Netlist) (e : AppFault) → netlist_from t.arch t.bytes ≡ Ok n → placement_in t.arch n place ≡ Err e
      → placed_of t place ≡ Err e
  unfolding placed_of
  placement_fails n e h k = rw (h, k) refl

  pub placed_read : (n : Netlist) (p : Placement) → netlist_from t.arch t.bytes ≡ Ok n → placement_in t.arch n place ≡ Ok p
      → placed_of t place ≡ Ok (placed_with t.arch n p)
  unfolding placed_of
  placed_read n p h k = rw (h, k) refl

-- ---- on a device

module _ (width : ℕ) (mode : Mode) (files : DesignFiles) where
  pub text_fails : (e : AppFault) → text_in files.arch files.net ≡ Err e → design_in width mode files ≡ Err e
  unfolding design_in
  text_fails e h = rw (placing_fails files e h) refl

  pub text_goes : (t : NetlistText) → text_in files.arch files.net ≡ Ok t → design_in width mode files ≡ design_of width mode t files.place
  unfolding design_in design_of
  text_goes t h = rw (placing_goes files t h) refl

module _ (width : ℕ) (mode : Mode) (t : NetlistText) (place : Input) where
  pub placed_fails : (e : AppFault) → placed_of t place ≡ Err e → design_of width mode t place ≡ Err e
  unfolding design_of
  placed_fails e h = rw h refl

  pub design_goes : (p : PlacedNetlist) → placed_of t place ≡ Ok p → design_of width mode t place ≡ Ok (design_on width mode p)
  unfolding design_of
  design_goes p h = rw h refl

-- ---- the problem of a design

module _ (width : ℕ) (mode : Mode) (a : Architecture) (n : Netlist) (p : Placement) (problem : RoutingProblem) (made : problem ≡ problem_with mode a n p width) where
  pub device_made : problem.device ≡ fabric_with p.nx p.ny width mode a
  unfolding problem_from
  device_made = ap (λ (q : RoutingProblem). q.device) made

  -- a design that fits the device of its problem
  pub design_fits : suits_design problem.device n p ≡ true → IsDesign n p problem
  design_fits suits =
      design_made n p problem (fabric_with p.nx p.ny width mode a) (ap (λ f. suits_design f n p) (sym device_made) ∙ suits) made
