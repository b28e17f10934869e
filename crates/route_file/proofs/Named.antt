-- Numbers of nets.
use Rattle.std.proofs.Common.{◌≡◌, ℕ, ◌<◌, List, [], map, length, Some, subst, ◌∙◌}
use Rattle.std.proofs.lemmas.List.{length-map}
use Rattle.std.proofs.lemmas.List.Quantifiers.{position-Some}
use Rattle.std.specs.Str.{bytes_eq}
use Rattle.std.proofs.lemmas.Iterator.Adapters.{position_from-zero}
use Rattle.net_file.specs.Names.{number_among}
use Rattle.net_file.specs.Netlist.{Net}

-- the number of a net is below how many there are
pub within : (name : List ℕ) (nets : List Net) (n : ℕ) → number_among (map (λ net. net.name) nets) name ≡ Some n → n < length nets
unfolding number_among
within name nets n e =
    subst (λ k. n < k) (length-map nets (λ net. net.name))
    (position-Some (bytes_eq name) (map (λ net. net.name) nets) n [] (position_from-zero (bytes_eq name) (map (λ net. net.name) nets) ∙ e)).0
