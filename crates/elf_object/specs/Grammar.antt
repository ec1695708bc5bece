-- The grammar of objects: the bytes are the encoding of some sections.
use Rattle.std.specs.Prelude.{◌≡◌, ℕ, ◌+◌, ◌^◌, ◌<◌, Bool, IsTrue, ◌==◌, ◌||◌, List, length, All}
use Rattle.elf_object.specs.declared.object.Section.{Section}
use Rattle.elf_object.specs.declared.object.Object.{Object}
use Rattle.elf_object.specs.Standard.{SHN_LORESERVE}
use Rattle.elf_object.specs.Spelling.{spelling, section_names}

-- a string has no zero byte, which ends it
abbrev pub IsName : List ℕ → Type 0
IsName name = All (λ byte. 0 < byte) name

-- a section whose name is a string
abbrev pub IsNamed : Section → Type 0
IsNamed s = IsName s.name

-- each multiple of 8 is one of this alignment ("Section Header", sh_addralign: a power of two, or 0, which is as 1)
abbrev pub is_alignment : ℕ → Bool
is_alignment n = (n == 0) || ((n == 1) || ((n == 2) || ((n == 4) || (n == 8))))

-- a section whose bytes may begin at any multiple of 8
abbrev pub IsAligned : Section → Type 0
IsAligned s = IsTrue (is_alignment s.alignment)

-- the fields of a section that its header has fit there
pub record FitsHeader (s : Section) : Type 0 where
  pub section_type : s.section_type < 2 ^ 32
  pub flags : s.flags < 2 ^ 64
  pub link : s.link < 2 ^ 32
  pub info : s.info < 2 ^ 32
  pub alignment : s.alignment < 2 ^ 64
  pub entry_size : s.entry_size < 2 ^ 64

-- the bytes are the object. Its sections, with the null one and that of their names, are counted in the ELF header; offsets of
-- names have 32 bits, offsets in the file 64
pub record IsObject (o : Object) (bytes : List ℕ) : Type 0 where
  pub spelled : bytes ≡ spelling o
  pub named : All IsNamed o.sections
  pub aligned : All IsAligned o.sections
  pub fits : All FitsHeader o.sections
  pub flags : o.flags < 2 ^ 32
  pub count : length o.sections + 2 < SHN_LORESERVE
  pub names : length (section_names o.sections).bytes < 2 ^ 32
  pub size : length bytes < 2 ^ 64
