-- Bytes that a source gives, call by call.
use Rattle.std.proofs.Common.{◌≡◌, ℕ, ◌+◌, ◌≤◌, List, ◌++◌, length, take, drop, Some, None, Option, sym, ap, subst, ◌∙◌}
use Rattle.std.specs.Io.KnownBytes.{Consumes, IsAtEnd}
use Rattle.std.proofs.KnownBytes.{Consumes-trans}
use Rattle.std.proofs.lemmas.List.{append-nil, length-append, take_all, drop_all, take_at, drop_at}
use Rattle.vpr_text.specs.Transfer.{ReadsFront}
use Rattle.vpr_text.specs.kept.Transfers.{ReadsMore}

pub Consumes-more : (a b c : Option (List ℕ)) (held now : List ℕ) (n : ℕ) → Consumes a b held → ReadsMore b c held now n → Consumes a c now
Consumes-more a b c held now n p q = subst (Consumes a c) (sym q.whole) (Consumes-trans a b c held q.added p q.consumed)

pub ReadsFront-end : (n : ℕ) (a b : Option (List ℕ)) (bytes : List ℕ) → Consumes a b bytes → IsAtEnd b → length bytes ≤ n → ReadsFront n a b bytes
ReadsFront-end n None b bytes p e le = tt
ReadsFront-end n (Some xs) None bytes p e le = absurd p
ReadsFront-end n (Some xs) (Some ys) bytes p e le =
    let all : xs ≡ bytes = p ∙ ap (λ (l : List ℕ). bytes ++ l) e ∙ append-nil bytes in
    (sym (ap (take n) all ∙ take_all n bytes le), ap Some (e ∙ sym (ap (drop n) all ∙ drop_all n bytes le)))

pub ReadsFront-full : (n : ℕ) (a b : Option (List ℕ)) (bytes : List ℕ) → Consumes a b bytes → length bytes ≡ n → ReadsFront n a b bytes
ReadsFront-full n None b bytes p e = tt
ReadsFront-full n (Some xs) None bytes p e = absurd p
ReadsFront-full n (Some xs) (Some ys) bytes p e =
    (sym (ap (take n) p ∙ take_at bytes ys n e), ap Some (sym (ap (drop n) p ∙ drop_at bytes ys n e)))

pub length-more : (a b : Option (List ℕ)) (held now : List ℕ) (n : ℕ) → ReadsMore a b held now n → length now ≡ length held + n
length-more a b held now n q = ap length q.whole ∙ length-append held q.added ∙ ap (λ (k : ℕ). length held + k) q.count
