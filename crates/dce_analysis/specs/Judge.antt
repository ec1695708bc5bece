-- Which items of a function are dead.
use Rattle.std.specs.Prelude.{◌≡◌, List, [], ◌∷◌, map, Bool}
use Rattle.mir_func.specs.declared.item.Item.{Item}
use Rattle.mir_func.specs.Function.{Function}
use Rattle.dce_rule.specs.Dead.{Places, Ends, is_dead, needed_at}
use Rattle.dce_rule.specs.CodeLaws.{AreLive}

-- for each item whether it is dead code, if these places are needed after all of them
abbrev pub verdicts : List Item → (needed : Places) → List Bool
verdicts [] needed = []
verdicts (i ∷ is) needed = is_dead i.kind (needed_at is needed) ∷ verdicts is needed

-- for each block and each of its items whether it is dead code, if exactly the places that are live out of a block are
-- needed at its end
pub record AreJudged (f : Function) (dead : List (List Bool)) : Type 0 where
  pub ends : Ends
  pub live : AreLive ends f
  pub verdicts_are : dead ≡ map (λ b. verdicts b.items (ends b.id)) f.blocks
