-- What the target of a file holds.
use Rattle.std.specs.Prelude.{ℕ, List, Option}
use Rattle.pathfinder.specs.declared.target.StandardStream.{StandardStream}
use Rattle.pathfinder.specs.declared.target.StandardStream.TheVariants.{Output, Error, Words}
use Rattle.pathfinder.specs.declared.target.Target.{Target}
use Rattle.pathfinder.specs.declared.target.Target.TheVariants.{Replacing, InPlace, Stream}

-- what a standard stream holds
abbrev pub stream_contents : {O E W : Type 0} → (O → Option (List ℕ)) → (E → Option (List ℕ)) → (W → Option (List ℕ)) → StandardStream O E W → Option (List ℕ)
stream_contents of_output of_errors of_words (Output output) = of_output output
stream_contents of_output of_errors of_words (Error errors) = of_errors errors
stream_contents of_output of_errors of_words (Words words) = of_words words

-- what a file or a standard stream holds
abbrev pub target_contents : {F S : Type 0} → (F → Option (List ℕ)) → (S → Option (List ℕ)) → Target F S → Option (List ℕ)
target_contents of_file of_stream (Replacing file) = of_file file
target_contents of_file of_stream (InPlace file) = of_file file
target_contents of_file of_stream (Stream stream) = of_stream stream
