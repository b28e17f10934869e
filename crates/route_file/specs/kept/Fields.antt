-- What the fields of types mean.
use Rattle.std.specs.Prelude.{ℕ, List, map, take}
use Rattle.route_file.specs.declared.node_words.NodeWords.TheInside as words

abbrev pub words_in : words.Inside → List (List ℕ)
words_in w = take w.count (map (λ word. word.now) w.words)
