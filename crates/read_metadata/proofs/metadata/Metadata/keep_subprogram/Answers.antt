use Rattle.std.proofs.Common.{ℕ, List, Bool, Vec, Global, nat_cmp, ap, ◌∙◌}
use Rattle.std.specs.Prelude.{is_some}
use Rattle.std.specs.Cmp.Lexicographic.{slice_cmp}
use Rattle.std.specs.Map.{lookup}
use Rattle.std.specs.BTreeMap.{is_at}
use Rattle.read_metadata.proofs.MapLemmas.{subprogram-new, subprogram-same}
use Rattle.read_metadata.proofs.metadata.Metadata.keep_subprogram.Goals as goal

-- whether a name is there
held : List (Vec ℕ Global × ℕ) → List ℕ → Bool
held entries name = is_some (lookup (is_at (λ (x : Vec ℕ Global). slice_cmp nat_cmp name x.items)) entries)

pub returns-in_ok-insert : goal.returns-in_ok-insert
unfolding held
returns-in_ok-insert c =
    subprogram-new c.args.self.now c.self.inside.nodes.entries c.self.inside.subprograms.entries c.insert.new.self.entries c.into_vec.result c.args.name
    c.args.number c.self.view_is c.into_vec.ensures
    (c.if-not-contains_key.ensures ∙ ap (held c.self.inside.subprograms.entries) c.as_slice.ensures) c.in_ok-insert.ensures.entries

pub returns-else-not-contains_key : goal.returns-else-not-contains_key
unfolding held
returns-else-not-contains_key c =
    subprogram-same c.args.self.now c.self.inside.nodes.entries c.self.inside.subprograms.entries c.args.name c.args.number c.self.view_is
    (c.if-not-contains_key.ensures ∙ ap (held c.self.inside.subprograms.entries) c.as_slice.ensures)
