use Rattle.std.proofs.Common.{rules, ◌≡◌, ◌+◌, ◌*◌, ◌<◌, ◌++◌, ◌∷◌, [], List, Vec, Global, length, map, drop, set, subst, sym, ap, ◌∙◌, arith}
use Rattle.std.proofs.lemmas.List.{drop_all}
use Rattle.dwarf_info.specs.declared.inlined.InlinedCall.{InlinedCall}
use Rattle.dwarf_info.specs.declared.unit.VariableEntry.{VariableEntry}
use Rattle.mir_func.specs.declared.variable.VarId.{VarId}
use Rattle.dwarf_line_table.proofs.Split.{split_at}
use Rattle.dwarf_line_table.specs.emit_code.Laid.{LaidCode}
use Rattle.dwarf_unit.specs.Inlined.{kept_variables, is_own, inlined_call}
use Rattle.dwarf_unit.specs.steps.Calls.{with_more}
use Rattle.dwarf_unit.proofs.Places.{placed_below}
use Rattle.dwarf_unit.proofs.InlinedFunctions.{FunctionSoFar, function_starts, function_own, function_inside, calls_count, function_divided, placed_by}
use Rattle.dwarf_unit.proofs.inlined.inlined_function.Goals.{in-Some+in_ok-push-in-Some, in-None+in_ok-push-in-None}
use Rattle.dwarf_unit.proofs.inlined.inlined_function.Goals as goal

pub loop-v-init : goal.loop-v-init
loop-v-init c =
    let P : List VariableEntry → Type 0 =
    λ own. FunctionSoFar c.args.meta.now c.args.types.now c.args.types.now c.args.first c.args.first c.args.variables.now c.args.variables.now
    c.args.instances.now c.in_ok-calls.calls.items own c.in_ok-calls.calls.items in
    subst P (sym c.new-own.ensures)
    (function_starts c.args.meta.now c.args.types.now c.args.first c.args.variables.now c.args.instances.now c.in_ok-calls.calls.items)

pub index_mut-requires : goal.index_mut-requires
index_mut-requires c =
    let instances = c.args.instances.now in
    let P : List VarId → Type 0 =
    λ rest. FunctionSoFar c.args.meta.now c.args.types.now c.loop-v.types c.args.first c.loop-v.list c.args.variables.now rest instances
    c.in_ok-calls.calls.items c.loop-v.own c.loop-v.calls.items in
    let so = subst P (split_at c.args.variables.now c.loop-v.v-index c.v-item.result c.loop-v-test.true c.v-item.is) c.loop-v.invariant in
    let at = placed_by instances c.in_ok-index.index c.v-item.result c.place.result c.in_ok-index.ensures c.place.ensures ∙ c.in-Some.is in
    let below = placed_below instances c.v-item.result c.in-Some.k at in
    let many = calls_count c.args.meta.now c.args.types.now c.args.first c.args.variables.now instances c.in_ok-calls.calls.items _ _ _ _ _ so in
    omega (arith, below, many, c.in_ok-calls.ensures.count, c.loop-v.calls.ok.0)

pub loop-v-preserved : goal.loop-v-preserved
loop-v-preserved c =
    let meta = c.args.meta.now in
    let instances = c.args.instances.now in
    let empty = c.in_ok-calls.calls.items in
    let v = c.v-item.result in
    let entry = c.in_ok-entry.entry in
    let P : List VarId → Type 0 =
    λ rest. FunctionSoFar meta c.args.types.now c.loop-v.types c.args.first c.loop-v.list c.args.variables.now rest instances empty c.loop-v.own
    c.loop-v.calls.items in
    let so = subst P (split_at c.args.variables.now c.loop-v.v-index v c.loop-v-test.true c.v-item.is) c.loop-v.invariant in
    let at = placed_by instances c.in_ok-index.index v c.place.result c.in_ok-index.ensures c.place.ensures in
    elim c.match-place.branch [
      | in-Some+in_ok-push-in-Some w ↦
          let k = w.in-Some.k in
          let was : InlinedCall = w.index_mut.result.now in
          let now : InlinedCall =
          record {
            parent = was.parent;
            origin = was.origin;
            file = was.file;
            line = was.line;
            column = was.column;
            variables = w.push.new.self;
          } in
          let below : k < length instances = placed_below instances v k (at ∙ w.in-Some.is) in
          let changed : c.match-place.calls.items ≡ set c.loop-v.calls.items k now = ap (λ (x : Vec InlinedCall Global). x.items) w.calls-is in
          let pushed : now ≡ with_more was (entry ∷ []) =
          (λ i. record {
            parent = was.parent;
            origin = was.origin;
            file = was.file;
            line = was.line;
            column = was.column;
            variables = w.in_ok-push-in-Some.ensures.ok i;
          }) in
          let made =
          function_inside meta c.args.types.now c.args.first c.args.variables.now instances empty c.loop-v.types c.variable_entry.new.types c.loop-v.list
          (drop (c.loop-v.v-index + 1) c.args.variables.now) v c.loop-v.own c.loop-v.calls.items c.match-place.calls.items entry k was now so changed
          c.in_ok-entry.ensures.known c.in_ok-entry.ensures.entry c.in_ok-entry.ensures.few (at ∙ w.in-Some.is)
          (omega (arith, below, c.in_ok-calls.ensures.count)) w.index_mut.ensures.value pushed in
          subst (λ (own : List VariableEntry). FunctionSoFar meta c.args.types.now c.variable_entry.new.types c.args.first (c.loop-v.list + 1)
          c.args.variables.now (drop (c.loop-v.v-index + 1) c.args.variables.now) instances empty own c.match-place.calls.items) (sym w.own-is) made
      | in-None+in_ok-push-in-None w ↦
          let pushed : c.match-place.own ≡ c.loop-v.own ++ entry ∷ [] = w.own-is ∙ w.in_ok-push-in-None.ensures.ok in
          let same : c.loop-v.calls.items ≡ c.match-place.calls.items = ap (λ (x : Vec InlinedCall Global). x.items) (sym w.calls-is) in
          let made =
          function_own meta c.args.types.now c.args.first c.args.variables.now instances empty c.loop-v.types c.variable_entry.new.types c.loop-v.list
          (drop (c.loop-v.v-index + 1) c.args.variables.now) v c.loop-v.own c.match-place.own c.loop-v.calls.items entry so c.in_ok-entry.ensures.known
          c.in_ok-entry.ensures.entry c.in_ok-entry.ensures.few (at ∙ w.in-None.is) pushed in
          subst (λ (calls : List InlinedCall). FunctionSoFar meta c.args.types.now c.variable_entry.new.types c.args.first (c.loop-v.list + 1)
          c.args.variables.now (drop (c.loop-v.v-index + 1) c.args.variables.now) instances empty c.match-place.own calls) same made
    ]

pub returns : goal.returns
returns c =
    let meta = c.args.meta.now in
    let instances = c.args.instances.now in
    let P : List VarId → Type 0 =
    λ rest. FunctionSoFar meta c.args.types.now c.loop-v.types c.args.first c.loop-v.list c.args.variables.now rest instances c.in_ok-calls.calls.items
    c.loop-v.own c.loop-v.calls.items in
    let so = subst P (drop_all c.loop-v.v-index c.args.variables.now c.loop-v-test.false) c.loop-v.invariant in
    record {
      types = so.so.known;
      subprograms = c.in_ok-calls.ensures.subprograms;
      function = λ number later others is.
          let types = c.loop-v.types ++ later in
          let subprograms = c.empty_calls.new.subprograms ++ others in
          let divided =
          function_divided meta c.args.types.now c.args.first c.args.variables.now instances c.in_ok-calls.calls.items c.loop-v.types c.loop-v.list c.loop-v.own
          c.loop-v.calls.items number later subprograms so c.requires.once (c.in_ok-calls.ensures.calls number others is) in
          let own = divided.0 ∙ ap (kept_variables meta types (is_own instances) c.args.first) c.requires.variables in
          let calls =
          c.from.ensures ∙ divided.1
          ∙ ap (λ (vs : List VarId). map (inlined_call meta number types subprograms c.args.first vs) instances) c.requires.variables in
          let name : c.in_ok-copy.field-0 ≡ c.args.function.now.source.now.name = search rules in
          let lo : c.code.inside.base ≡ c.args.function.now.code.now.base = ap (λ (x : LaidCode). x.base) c.code.view_is in
          let len : 4 * c.len.result ≡ 4 * length c.args.function.now.code.now.words = search rules in
          (λ i. record { function = record { name = name i; lo = lo i; len = len i; variables = own i }; calls = calls i });
      few = let few = so.so.few in omega (arith, few);
    }
