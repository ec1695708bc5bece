-- The names of passes, and texts that list them.
use Rattle.std.specs.Prelude.{◌≡◌, ℕ, List, [], ◌∷◌, ◌++◌, codes, Contains}
use Rattle.pass_list.specs.declared.kind.PassKind.{PassKind}
use Rattle.pass_list.specs.declared.kind.PassKind.TheVariants.{Copy, Remat, Spill, Dead, Fold}

-- a pass's name
abbrev pub name_of : PassKind → List ℕ
name_of Copy = codes "copy"
name_of Remat = codes "remat"
name_of Spill = codes "spill"
name_of Dead = codes "dead"
name_of Fold = codes "fold"

-- further names, each after a comma
abbrev pub more_names : List PassKind → List ℕ
more_names [] = []
more_names (p ∷ ps) = 44 ∷ (name_of p ++ more_names ps)

-- the text of a list of passes: their names, separated by commas, or `none`
abbrev pub text_of : List PassKind → List ℕ
text_of [] = codes "none"
text_of (p ∷ ps) = name_of p ++ more_names ps

-- no pass is in the list twice
abbrev pub AreDistinct : List PassKind → Type 0
AreDistinct [] = Unit {0}
AreDistinct (p ∷ ps) = (Contains ps p → ⊥) × AreDistinct ps

-- the default list: all passes
abbrev pub STANDARD : List PassKind
STANDARD = Copy ∷ Remat ∷ Spill ∷ Dead ∷ Fold ∷ []

-- `whole` is the list with the pass of this name appended, and no pass is in it twice
pub record IsNamedBehind (list : List PassKind) (name : List ℕ) (whole : List PassKind) : Type 0 where
  pub pass : PassKind
  pub named : name ≡ name_of pass
  pub behind : whole ≡ list ++ pass ∷ []
  pub distinct : AreDistinct whole

-- `whole` is the list with the one or more passes named in the text appended, and no pass is in it twice
pub record AreNamedBehind (list : List PassKind) (text : List ℕ) (whole : List PassKind) : Type 0 where
  pub first : PassKind
  pub others : List PassKind
  pub named : text ≡ name_of first ++ more_names others
  pub behind : whole ≡ list ++ first ∷ others
  pub distinct : AreDistinct whole
