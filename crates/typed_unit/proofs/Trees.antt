-- The tree of a unit, by its types before and after they have places.
use Rattle.std.proofs.Common.{◌≡◌, ℕ, Bool, Option, List, ◌∷◌, length, sym, ap, ◌∙◌, subst}
use Rattle.dwarf_entry.specs.declared.tree.TreeItem.{TreeItem}
use Rattle.type_nodes.specs.declared.shape.Shape.{Shape}
use Rattle.type_entries.specs.declared.table.TypeTable.{TypeTable}
use Rattle.type_entries.specs.Types.{IsTable}
use Rattle.typed_unit.specs.declared.content.TypedUnit.{TypedUnit}
use Rattle.typed_unit.specs.Unknown.{names_unknown}
use Rattle.typed_unit.specs.Unit.{unit_item, unknown_items, head_items, with_functions, IsTypedTree}

module _ (old new : TypeTable) (u : TypedUnit) (types : new.types ≡ old.types) (stands : new.stands.items ≡ old.stands.items)
    (sizes : new.sizes.items ≡ old.sizes.items) where
  same_head : head_items old u ≡ head_items new u
  same_head =
      ap (λ (ts : List Shape). unit_item u ∷ unknown_items (names_unknown ts old.stands.items old.sizes.items u)) (sym types)
      ∙ ap (λ (marks : List Bool). unit_item u ∷ unknown_items (names_unknown new.types marks old.sizes.items u)) (sym stands)
      ∙ ap (λ (ns : List (Option ℕ)). unit_item u ∷ unknown_items (names_unknown new.types new.stands.items ns u)) (sym sizes)

  pub made_tree : (first placed tree : List TreeItem) → first ≡ head_items old u → placed ≡ first → new.unknown ≡ 1 → IsTable (length first) new
      → tree ≡ with_functions new u placed → IsTypedTree old.types u tree
  made_tree first placed tree begun same unknown is all =
      let head : first ≡ head_items new u = begun ∙ same_head in
      record {
        table = new;
        types = types;
        unknown = unknown;
        is = subst (λ (h : List TreeItem). IsTable (length h) new) head is;
        items = all ∙ ap (with_functions new u) (same ∙ head);
      }
