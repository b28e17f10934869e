-- A text of pieces with a piece more.
use Rattle.std.proofs.Common.{◌≡◌, ℕ, ◌+◌, ◌<◌, List, [], ◌∷◌, ◌++◌, length, take, get_or, refl, sym, ap, ◌∙◌, append_assoc}
use Rattle.std.proofs.lemmas.List.{take_more}
use Rattle.text_output.specs.declared.piece.Piece.{Piece}
use Rattle.text_output.specs.Pieces.{piece_text, pieces_text}

pieces_push : (ps : List Piece) (p : Piece) → pieces_text (ps ++ p ∷ []) ≡ pieces_text ps ++ piece_text p
pieces_push [] p = refl
pieces_push (q ∷ []) p = refl
pieces_push (q ∷ r ∷ ps) p =
    ap (λ t. piece_text q ++ t) (pieces_push (r ∷ ps) p) ∙ sym (append_assoc (piece_text q) (pieces_text (r ∷ ps)) (piece_text p))

pub pieces_more : (ps : List Piece) (i : ℕ) (p : Piece) → i < length ps → p ≡ get_or ps i p → pieces_text (take i ps) ++ piece_text p ≡ pieces_text (take (i + 1) ps)
pieces_more ps i p l is =
    sym (ap pieces_text (take_more ps i p l ∙ ap (λ q. take i ps ++ q ∷ []) (sym is)) ∙ pieces_push (take i ps) p)
