use Rattle.std.proofs.Common.{◌≡◌, ◌∷◌, take}
use Rattle.std.specs.List.{flat_map}
use Rattle.read_metadata.specs.Text.{inside_quotes}
use Rattle.read_metadata.specs.Token.{text_of}
use Rattle.read_declarations.proofs.name.joined.Given as goal

abbrev pub invariant-loop-token : goal.invariant-loop-token
invariant-loop-token l = l.quoted ≡ flat_map (λ t. 39 ∷ inside_quotes (text_of l.line t)) (take l.token-index l.tokens)
