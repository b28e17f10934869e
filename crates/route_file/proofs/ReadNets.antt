-- The line of a net is read as the net.
use Rattle.std.proofs.Common.{◌≡◌, ℕ, ◌-◌, ◌^◌, ◌<◌, true, false, cond, List, ◌++◌, length, map, Some, None, codes, refl, ap, arith, length-append}
use Rattle.std.specs.Prelude.{slice_index_or}
use Rattle.std.proofs.lemmas.List.{drop_at, take_at}
use Rattle.vpr_text.specs.Word.{is_text}
use Rattle.net_file.specs.Names.{number_among}
use Rattle.net_file.specs.Netlist.{Netlist}
use Rattle.net_file.specs.Routed.{no_net}
use Rattle.route_file.specs.TextLine.{RoutedNet, GlobalNet}
use Rattle.route_file.specs.NetLine.{before_ending, enclosed, is_plain_form, is_global_form, name_on, is_global_at, same_answer, net_on}
use Rattle.route_file.proofs.LineWords.{in_brackets, line_words}
use Rattle.route_file.proofs.ReadNumbers.{number_read}

-- a name stands for one net alone
abbrev pub IsNamed : Netlist → ℕ → Type 0
IsNamed netlist n = number_among (map (λ net. net.name) netlist.nets) (slice_index_or netlist.nets n no_net).name ≡ Some n

without_ending : (name ending : List ℕ) → is_text ending ending ≡ true → before_ending ending (name ++ ending) ≡ Some name
unfolding before_ending
without_ending name ending e =
    let long : length (name ++ ending) - length ending ≡ length name = simp length-append (omega arith) in
    rw (long, drop_at name ending (length name) refl, take_at name ending (length name) refl, e) refl

close_read : (name : List ℕ) → enclosed (codes ")") (in_brackets name (codes ")")) ≡ Some name
unfolding enclosed is_text
close_read name = without_ending name (codes ")") refl

colon_read : (name : List ℕ) → enclosed (codes "):") (in_brackets name (codes "):")) ≡ Some name
unfolding enclosed is_text
colon_read name = without_ending name (codes "):") refl

pub plain_form : (n : ℕ) (name : List ℕ) → n < 2 ^ 32 → is_plain_form (line_words (RoutedNet n name)) ≡ true
unfolding is_plain_form
plain_form n name h = rw (number_read n h, close_read name) refl

plain_not_global : (n : ℕ) (name : List ℕ) → is_global_form (line_words (RoutedNet n name)) ≡ false
unfolding is_global_form
plain_not_global n name = refl

pub global_form : (n : ℕ) (name : List ℕ) → n < 2 ^ 32 → is_global_form (line_words (GlobalNet n name)) ≡ true
unfolding is_global_form is_text
global_form n name h = rw (number_read n h, colon_read name) refl

plain_name : (n : ℕ) (name : List ℕ) → name_on (line_words (RoutedNet n name)) ≡ name
unfolding name_on
plain_name n name = rw (plain_not_global n name, close_read name) refl

global_name : (n : ℕ) (name : List ℕ) → n < 2 ^ 32 → name_on (line_words (GlobalNet n name)) ≡ name
unfolding name_on
global_name n name h = rw (global_form n name h, colon_read name) refl

-- a routed net's line names it
pub routed_net_read : (netlist : Netlist) (n : ℕ) → is_global_at netlist n ≡ false → IsNamed netlist n → net_on netlist (line_words (RoutedNet n (slice_index_or netlist.nets n no_net).name)) ≡ Some n
unfolding net_on
routed_net_read netlist n other named =
    let name = (slice_index_or netlist.nets n no_net).name in
    rw (plain_not_global n name, plain_name n name, named) (ap (λ b. cond (same_answer b false) (Some n) None) other)

-- a global net's line names it
pub global_net_read : (netlist : Netlist) (n : ℕ) → n < 2 ^ 32 → is_global_at netlist n ≡ true → IsNamed netlist n → net_on netlist (line_words (GlobalNet n (slice_index_or netlist.nets n no_net).name)) ≡ Some n
unfolding net_on
global_net_read netlist n h global named =
    let name = (slice_index_or netlist.nets n no_net).name in
    rw (global_form n name h, global_name n name h, named) (ap (λ b. cond (same_answer b true) (Some n) None) global)
