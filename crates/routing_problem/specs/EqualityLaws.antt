-- Two devices, nets or problems are the same exactly where the test says so, and the test is an
-- equivalence.
use Rattle.std.proofs.Common.{◌≡◌, true, refl, ap}
use Rattle.std.specs.Bool.{Decides}
use Rattle.std.specs.Cmp.{IsEquivalence, IsPartialEquivalence, partial_equiv_from_equiv, unsigned_Decides}
use Rattle.std.specs.Cmp.Lexicographic.{pointwise_decides}
use Rattle.std.proofs.lemmas.Bool.{false≢true}
use Rattle.std.proofs.lemmas.Bool.Decides.{Decides-and, Decides-like}
use Rattle.arch_file.specs.EqualityLaws.{decides_from_tests, same_architecture}
pub use Rattle.arch_file.specs.EqualityLaws.{equivalence_from_decides}
use Rattle.channel_tables.specs.declared.node.Mode.{Mode}
use Rattle.channel_tables.specs.declared.node.Mode.TheVariants.{Detailed, Global}
use Rattle.channel_tables.specs.Fabric.{Fabric}
use Rattle.routing_problem.specs.Problems.{Net, RoutingProblem}
use Rattle.routing_problem.specs.Equality.{same_mode, is_same_device, is_same_net, is_same_problem}

mode_decides : (a b : Mode) → Decides (same_mode a b) (a ≡ b)
mode_decides = decides_from_tests same_mode same reported
  where
    same : (a : Mode) → same_mode a a ≡ true
    same Detailed = refl
    same Global = refl

    reported : (a b : Mode) → same_mode a b ≡ true → a ≡ b
    reported Detailed Detailed e = refl
    reported Detailed Global e = absurd (false≢true e)
    reported Global Detailed e = absurd (false≢true e)
    reported Global Global e = refl

-- the test is true exactly where the two are the same
pub same_device : (a b : Fabric) → Decides (is_same_device a b) (a ≡ b)
unfolding is_same_device
same_device a b =
    Decides-like (is_same_device a b) (λ h. λ i. record { architecture = h.1.1.1.1 i; nx = h.0 i; ny = h.1.0 i; width = h.1.1.0 i; mode = h.1.1.1.0 i })
    (λ e. (ap (λ f. f.nx) e, (ap (λ f. f.ny) e, (ap (λ f. f.width) e, (ap (λ f. f.mode) e, ap (λ f. f.architecture) e)))))
    (Decides-and _ _ (unsigned_Decides a.nx b.nx)
    (Decides-and _ _ (unsigned_Decides a.ny b.ny)
    (Decides-and _ _ (unsigned_Decides a.width b.width)
    (Decides-and _ _ (mode_decides a.mode b.mode) (same_architecture a.architecture b.architecture)))))

pub same_device_equivalence : IsEquivalence is_same_device
same_device_equivalence = equivalence_from_decides is_same_device same_device

pub same_device_symmetric : IsPartialEquivalence is_same_device
same_device_symmetric = partial_equiv_from_equiv same_device_equivalence

pub same_net : (a b : Net) → Decides (is_same_net a b) (a ≡ b)
unfolding is_same_net
same_net a b =
    Decides-like (is_same_net a b) (λ h. λ i. record { number = h.0 i; source = h.1.0 i; sinks = h.1.1 i })
    (λ e. (ap (λ n. n.number) e, (ap (λ n. n.source) e, ap (λ n. n.sinks) e)))
    (Decides-and _ _ (unsigned_Decides a.number b.number)
    (Decides-and _ _ (unsigned_Decides a.source b.source) (pointwise_decides unsigned_Decides a.sinks b.sinks)))

pub same_net_equivalence : IsEquivalence is_same_net
same_net_equivalence = equivalence_from_decides is_same_net same_net

pub same_net_symmetric : IsPartialEquivalence is_same_net
same_net_symmetric = partial_equiv_from_equiv same_net_equivalence

pub same_problem : (a b : RoutingProblem) → Decides (is_same_problem a b) (a ≡ b)
unfolding is_same_problem
same_problem a b =
    Decides-like (is_same_problem a b) (λ h. λ i. record { device = h.0 i; nets = h.1 i })
    (λ e. (ap (λ p. p.device) e, ap (λ p. p.nets) e))
    (Decides-and _ _ (same_device a.device b.device) (pointwise_decides same_net a.nets b.nets))

pub same_problem_equivalence : IsEquivalence is_same_problem
same_problem_equivalence = equivalence_from_decides is_same_problem same_problem

pub same_problem_symmetric : IsPartialEquivalence is_same_problem
same_problem_symmetric = partial_equiv_from_equiv same_problem_equivalence
