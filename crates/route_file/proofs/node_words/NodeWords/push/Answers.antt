use Rattle.std.proofs.Common.{◌<◌, ◌∷◌, ◌++◌, [], length, map, ap, ◌∙◌, arith}
use Rattle.std.proofs.lemmas.List.{length-take, length-map}
use Rattle.route_file.proofs.Pieces.{word_pushed}
use Rattle.route_file.proofs.node_words.NodeWords.push.Goals as goal

pub returns : goal.returns
returns c =
    let w = c.self.inside in
    let within : w.count < length w.words = omega (arith, ap length c.self.view_is, length-take w.count (map (λ word. word.now) w.words), length-map w.words (λ word. word.now), c.self.told, c.requires, c.self.invariant) in
    word_pushed w.words w.count c.args.word within ∙ ap (λ ws. ws ++ c.args.word.now ∷ []) c.self.view_is
