-- What the words of a node's line say.
use Rattle.std.proofs.Common.{◌≡◌, ℕ, ◌^◌, ◌<◌, true, [], ◌∷◌, Some, decimal, codes, refl}
use Rattle.vpr_text.specs.Word.{is_text}
use Rattle.rr_graph.specs.node.Kind.{Kind}
use Rattle.rr_graph.specs.node.Label.{Label}
use Rattle.route_file.specs.declared.node_line.NodeText.{NodeText}
use Rattle.route_file.specs.NodeLine.{takes, is_wire, is_place_line, is_span_line, place_text, span_text, text_of}
use Rattle.route_file.proofs.LineWords.{kind_word, label_word}
use Rattle.route_file.proofs.ReadNumbers.{number_read}
use Rattle.route_file.proofs.ReadNodes.{kind_read, label_read}

abbrev pub text_with : Kind → Label → (x1 y1 x2 y2 number : ℕ) → NodeText
text_with k l x1 y1 x2 y2 number = record { kind = k; x1 = x1; y1 = y1; x2 = x2; y2 = y2; label = l; number = number }

-- five words tell a node of one place
pub place_read : (k : Kind) (l : Label) (x y n : ℕ) → x < 2 ^ 32 → y < 2 ^ 32 → n < 2 ^ 32 → takes k l ≡ true
    → text_of (kind_word k ∷ decimal x ∷ decimal y ∷ label_word l ∷ decimal n ∷ []) ≡ Some (text_with k l x y x y n)
unfolding text_of is_place_line place_text
place_read k l x y n hx hy hn t = rw (kind_read k, label_read l, number_read x hx, number_read y hy, number_read n hn, t) refl

-- eight words tell a wire by its ends
pub span_read : (k : Kind) (l : Label) (x1 y1 x2 y2 n : ℕ) → x1 < 2 ^ 32 → y1 < 2 ^ 32 → x2 < 2 ^ 32 → y2 < 2 ^ 32 → n < 2 ^ 32 → takes k l ≡ true → is_wire k ≡ true
    → text_of (kind_word k ∷ decimal x1 ∷ decimal y1 ∷ codes "to" ∷ decimal x2 ∷ decimal y2 ∷ label_word l ∷ decimal n ∷ []) ≡ Some (text_with k l x1 y1 x2 y2 n)
unfolding text_of is_place_line is_span_line span_text is_text
span_read k l x1 y1 x2 y2 n a b c d hn t w =
    rw (kind_read k, label_read l, number_read x1 a, number_read y1 b, number_read x2 c, number_read y2 d, number_read n hn, t, w) refl
