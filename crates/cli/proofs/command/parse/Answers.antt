use Rattle.std.proofs.Common.{◌≡◌, ◌↔◌, ◌∷◌, ◌-◌, ℕ, List, length, take, drop, map, subst, Some, String, Global}
use Rattle.std.specs.Prelude.{string_bytes, IfOk}
use Rattle.cli.specs.declared.command.Command.{Command}
use Rattle.cli.specs.Command.{IsCommand}
use Rattle.cli.proofs.CommandWords.{first_and_rest}
use Rattle.cli.proofs.command.parse.Goals as goal

pub returns-in-len1-up : goal.returns-in-len1-up
returns-in-len1-up c =
    let words = c.args.words.now in
    let name = c.name-item.result in
    let rest = take (length words - 1) (drop 1 words) in
    let whole = first_and_rest words name c.in-len1-up.len_at_least c.name-item.is in
    subst (λ (ws : List (String Global)). IfOk c.named.result (λ o. (command : Command) → (o ≡ Some command) ↔ IsCommand (map string_bytes ws) command)) whole
    (subst (λ (bytes : List ℕ). IfOk c.named.result (λ o. (command : Command) →
    (o ≡ Some command) ↔ IsCommand (bytes ∷ map string_bytes rest) command)) c.as_str.ensures.value c.named.ensures)
