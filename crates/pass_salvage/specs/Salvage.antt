-- What the items above a copy, its position and the substitutions are after its number was salvaged.
use Rattle.std.specs.Prelude.{ℕ, zero, suc, ◌+◌, List, [], ◌∷◌, cond, nat_eq, Some}
use Rattle.rv64_instr.specs.declared.place.Place.TheVariants.{Register}
use Rattle.mir_func.specs.declared.position.Origin.{Origin}
use Rattle.mir_func.specs.declared.debug_substitution.DebugSubstitution.{DebugSubstitution}
use Rattle.mir_func.specs.declared.item.Item.{Item}
use Rattle.mir_func.specs.declared.item.ItemKind.{ItemKind}
use Rattle.mir_func.specs.declared.item.ItemKind.TheVariants.{Code, Mark, Phi}
use Rattle.pass_trait.specs.Rule.{first_operand, item_before}
use Rattle.pass_salvage.specs.declared.salvage_action.SalvageAction.{SalvageAction}
use Rattle.pass_salvage.specs.declared.salvage_action.SalvageAction.TheVariants.{HasEntry, GetsEntry, GetsPhi}

-- the code with this number; debug items are unchanged
abbrev pub with_number : (n : ℕ) → ItemKind → ItemKind
with_number n (Code i k) = Code i (Some n)
with_number n (Mark v m) = Mark v m
with_number n (Phi p k) = Phi p k

-- the items, with this number on the code at an index
abbrev pub numbered_at : (index n : ℕ) → List Item → List Item
numbered_at d n [] = []
numbered_at zero n (x ∷ xs) = record x { kind = with_number n x.kind } ∷ xs
numbered_at (suc d) n (x ∷ xs) = x ∷ numbered_at d n xs

-- the items above the copy after the salvage
abbrev pub above_after : SalvageAction → List Item → List Item
above_after HasEntry above = above
above_after (GetsEntry d o n) above = numbered_at d n above
above_after GetsPhi above = above

-- the DBG_PHI of register s that replaces a copy of s with number k and this origin
abbrev pub phi_for : (k s : ℕ) → Origin → Item
phi_for k s o = item_before (Phi (Some (Register s)) k) o

-- what replaces a copy of s with number k and this origin: a DBG_PHI, or nothing
abbrev pub put_for : SalvageAction → (k s : ℕ) → Origin → List Item
put_for HasEntry k s o = []
put_for (GetsEntry d p n) k s o = []
put_for GetsPhi k s o = phi_for k s o ∷ []

-- the substitution of operand 0 of number k by operand o of number n
abbrev pub entry_for : (k n o : ℕ) → DebugSubstitution
entry_for k n o = record { src = first_operand k; dst = record { number = n; operand = o }; subreg = 0 }

-- the substitutions that are added
abbrev pub entries_for : SalvageAction → (k : ℕ) → List DebugSubstitution
entries_for HasEntry k = []
entries_for (GetsEntry d o n) k = entry_for k n o ∷ []
entries_for GetsPhi k = []

-- the next fresh number after the salvage
abbrev pub fresh_after : SalvageAction → (fresh : ℕ) → ℕ
fresh_after HasEntry fresh = fresh
fresh_after (GetsEntry d o n) fresh = cond (nat_eq n fresh) (fresh + 1) fresh
fresh_after GetsPhi fresh = fresh
