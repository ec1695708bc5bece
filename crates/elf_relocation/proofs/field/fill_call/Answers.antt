use Rattle.std.specs.Int.{w32, to_le_bytes}
use Rattle.std.proofs.Common.{ℕ, ◌+◌, ap, ◌∙◌}
use Rattle.elf_relocation.specs.Applied.{patched}
use Rattle.elf_relocation.proofs.FieldLemmas.{call_filled}
use Rattle.elf_relocation.proofs.field.fill_call.Goals as goal

pub returns : goal.returns
returns c =
    call_filled c.args.value c.args.at c.u32_at-upper.result c.u32_at-lower.result c.args.bytes.now c.write_word.new.bytes c.write_word-2.new.bytes
    c.requires c.u32_at-upper.ensures c.u32_at-lower.ensures
    (c.write_word.ensures ∙ ap (λ (w : ℕ). patched c.args.at (to_le_bytes w32 w) c.args.bytes.now) c.with_upper.ensures)
    (c.write_word-2.ensures ∙ ap (λ (w : ℕ). patched (c.args.at + 4) (to_le_bytes w32 w) c.write_word.new.bytes) c.with_lower.ensures)
