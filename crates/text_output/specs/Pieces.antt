-- Texts as lists of pieces (ours).
use Rattle.std.specs.Prelude.{List, ℕ, [], ◌∷◌, ◌++◌, decimal}
use Rattle.routing_problem.specs.Nodes.{node_at}
use Rattle.text_output.specs.declared.piece.Piece.{Piece}
use Rattle.text_output.specs.declared.piece.Piece.TheVariants.{Text, Number, LongNumber, Place, Node}
use Rattle.text_output.specs.NodeTexts.{place_text, text_of_node}

abbrev pub piece_text : Piece → List ℕ
piece_text (Text bytes) = bytes.now
piece_text (Number n) = decimal n
piece_text (LongNumber n) = decimal n
piece_text (Place x y) = place_text x y
piece_text (Node device id) = text_of_node device.now (node_at device.now id)

-- the texts of the pieces, one after another, with nothing after the last
abbrev pub pieces_text : List Piece → List ℕ
pieces_text [] = []
pieces_text (p ∷ []) = piece_text p
pieces_text (p ∷ q ∷ ps) = piece_text p ++ pieces_text (q ∷ ps)
