use Rattle.std.proofs.Common.{◌≡◌, ◌+◌, ◌≤◌, ◌==◌, length, take}
use Rattle.std.specs.List.{suffix_len}
use Rattle.read_documents.proofs.text.trimmed.Given as goal

abbrev pub invariant-loop-len : goal.invariant-loop-len
invariant-loop-len l = record {
  within : l.len ≤ length l.line;
  spaces : length l.line + suffix_len (λ b. b == 32) (take l.len l.line) ≡ l.len + suffix_len (λ b. b == 32) l.line;
}

abbrev pub decreases-loop-len : goal.decreases-loop-len
decreases-loop-len l = l.len
