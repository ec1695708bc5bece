use Rattle.std.specs.Prelude.{Option, IfSome, All, ◌-◌}
use Rattle.std.proofs.Common.{ℕ, List, subst, arith, ◌≡◌, ◌+◌, ◌*◌, ◌++◌, ◌∙◌, ap, length}
use Rattle.dwarf_rnglists.specs.declared.range.AddressRange.{AddressRange}
use Rattle.dwarf_rnglists.specs.Ranges.{Are64Bit}
use Rattle.dwarf_rnglists.specs.Spelling.{spelling, offsets_from, bodies}
use Rattle.dwarf_rnglists.proofs.SpellingLemmas.{length-spelling, assembled}
use Rattle.dwarf_rnglists.proofs.section.write_ranges.Goals as goal

pub overflow_sub-size : goal.overflow_sub-size
overflow_sub-size c =
    let size : c.unwrap-size.result ≡ length (spelling c.args.lists.now) =
    subst (λ (r : Option ℕ). IfSome r (λ s. s ≡ length (spelling c.args.lists.now))) c.unwrap-size.ensures c.ranges_size.ensures.size in
    omega (arith, length-spelling c.args.lists.now)

pub overflow_cast-len : goal.overflow_cast-len
overflow_cast-len c = omega (arith, length-spelling c.args.lists.now, c.requires.size)

pub push_offsets-requires : goal.push_offsets-requires
push_offsets-requires c = rw c.as_slice.ensures (omega (arith, length-spelling c.args.lists.now, c.requires.size))

pub returns-clause-bytes : goal.returns-clause-bytes
returns-clause-bytes c =
    let size : c.unwrap-size.result ≡ length (spelling c.args.lists.now) =
    subst (λ (r : Option ℕ). IfSome r (λ s. s ≡ length (spelling c.args.lists.now))) c.unwrap-size.ensures c.ranges_size.ensures.size in
    let after : (c.unwrap-size.result - 4) + 4 ≡ length (spelling c.args.lists.now) = omega (arith, length-spelling c.args.lists.now) in
    c.from.ensures
    ∙ assembled c.args.lists.now c.in_ok-section.section.items c.push_header.new.out.items c.push_offsets.new.out.items c.push_lists.new.out.items
    (c.unwrap-size.result - 4) c.len.result c.in_ok-section.ensures.items after c.len.ensures c.in_ok-push_header.ensures
    (c.in_ok-push_offsets.ensures ∙ ap (λ ls. c.push_header.new.out.items ++ offsets_from (4 * length ls) ls) c.as_slice.ensures)
    (c.in_ok-push_lists.ensures.bytes ∙ ap (λ ls. c.push_offsets.new.out.items ++ bodies ls) c.as_slice-2.ensures)

pub returns-clause-section : goal.returns-clause-section
returns-clause-section c =
    let wide = subst (λ (ls : List (List AddressRange)). All Are64Bit ls) c.as_slice-2.ensures c.in_ok-push_lists.ensures.wide in
    record {
      spelled = returns-clause-bytes c;
      size = rw (returns-clause-bytes c) (omega (arith, c.requires.size));
      ascend = c.requires.ascend;
      wide = wide;
    }
