-- Sections that can be written.
use Rattle.std.specs.Prelude.{◌≤◌, List, length}
use Rattle.elf_linkable.specs.declared.section.LinkableSection.{LinkableSection}
use Rattle.elf_object.specs.Grammar.{IsName, is_alignment}
use Rattle.std.specs.Prelude.{IsTrue}

-- there are few of them
abbrev pub AreFew : List LinkableSection → Type 0
AreFew sections = length sections ≤ 16

-- the name of a section is a string, and it may begin at any multiple of 8
pub record IsPlain (s : LinkableSection) : Type 0 where
  pub name : IsName s.name
  pub alignment : IsTrue (is_alignment s.alignment)
