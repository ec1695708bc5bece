-- In the image of a layout the function lies point by point.
use Rattle.std.proofs.Common.{◌≡◌, ◌⊎◌, ℕ, suc, ◌+◌, ◌%◌, ◌^◌, ◌<◌, ◌≤◌, ℤ, pos, List, [], ◌∷◌, ◌++◌, drop, map}
use Rattle.std.proofs.Common.{slice_get, Option, Some, None, Bool}
use Rattle.std.proofs.Common.{true, false, cond, not, IsTrue, refl, sym, ap, ◌∙◌, subst, inl, inr}
use Rattle.std.proofs.Common.{nat_eq, ◌&&◌, ne_eqb, eq-eqb, arith}
use Rattle.std.specs.Int.{w32, to_le_bytes}
use Rattle.std.specs.Option.{option_map}
use Rattle.rv64_instr.specs.declared.op.Op.{Op}
use Rattle.rv64_instr.specs.declared.op.BranchOp.{BranchOp}
use Rattle.rv64_instr.specs.Arithmetic.{taken}
use Rattle.rv64_instr.specs.Instruction.{Instruction}
use Rattle.rv64_instr.specs.Row.{Row, Fixes, Moves, Sets, Addresses, Loads, Stores, LoadsSlot, StoresSlot, Branches, Jumps, Calls, Returns, Unfit, row_of}
use Rattle.rv64_instr.specs.Row.{row_by, implicit_uses, CallSite as Call, Callee, Ending, Back, Named, Held, Way, Tail, Never}
use Rattle.rv64_word.specs.declared.machine_op.MachineOp.{MachineOp}
use Rattle.rv64_word.specs.MachineOp.{is_encodable, word_of}
use Rattle.rv64_word.specs.MachineRow.{MachineRow, LinksTo, machine_row, placed, placed_callee, placed_way, at_offset}
use Rattle.rv64_word.specs.Linked.{immediate_of, linked_word}
use Rattle.rv64_instr.specs.LocationEffects.{object_named, part_named, is_named, way_has_site}
use Rattle.rv64_instr.specs.Inverse.{inverse}
use Rattle.rv64_word.specs.Decoded.{decoded}
use Rattle.rv64_word.specs.Lowering.{lowered, return_op}
use Rattle.rv64_word.proofs.Words.{lowered_fits, lowered_acts}
use Rattle.rv64_word.proofs.Linking.{linked_op, lowered_links}
use Rattle.rv64_word.proofs.Decoding.{is_decoded}
use Rattle.mir_func.specs.declared.block.Block.{Block}
use Rattle.mir_func.specs.declared.exit.Exit.{Exit}
use Rattle.mir_func.specs.declared.exit.Exit.TheVariants.{Perhaps, Always}
use Rattle.mir_func.specs.declared.item.Item.{Item}
use Rattle.mir_func.specs.declared.item.ItemKind.{ItemKind}
use Rattle.mir_func.specs.declared.item.ItemKind.TheVariants.{Code, Mark, Phi}
use Rattle.mir_func.specs.declared.position.Origin.{Origin}
use Rattle.mir_func.specs.declared.position.Origin.TheVariants.{Kept, Before}
use Rattle.mir_func.specs.declared.position.Pos.{Pos}
use Rattle.mir_func.specs.Exits.{row_exit}
use Rattle.mir_func.specs.Graph.{Here, EndOfBlock, below, block_start, fetch_in, index_of}
use Rattle.mir_func.specs.Successors.{pos_in}
use Rattle.mir_func.specs.Positions.{position_of}
use Rattle.sem_mir.specs.Align.{is_code}
use Rattle.sem_machine.specs.Image.{CodeLine, Image, line_at, word_at}
use Rattle.sem_machine.specs.Machine.{Machine, register}
use Rattle.sem_machine.specs.MachineStep.{Continues, Ends, past, at, return_word, does_row, does_word, does_operation, does_line, does_at, call_of, result_at}
use Rattle.sem_machine.specs.MachineStep.{BadWord, machine_step, does_left, left_by, elsewhere, callee_size, step_call, called_at, passed}
use Rattle.sem_machine.specs.MachineStep.{is_jump_to, operation_jumps_to, word_jumps_to, goes_to, leaves_by}
use Rattle.sem_machine.specs.MachineStep as machine
use Rattle.emit_code.specs.LongBranch.{inverted_branch, skip_of, jump_to}
use Rattle.emit_code.specs.Listed.{line, by_pointer, listed, form_lines, kind_lines, lines_at}
use Rattle.emit_code.specs.Rule.{Layout, Form, OneWord, CallSite, LongBranch, row_form, form_of, form_size, size_of, address_in}
use Rattle.emit_code.specs.Rule.{offset_to, object_offset, operation_at, skip_operation}
use Rattle.emit_code.specs.Rule.{jump_operation, word_if, form_words, kind_words, words_at, added_before, Site, sites_of}
use Rattle.emit_code.proofs.Sites.{site_from}
use Rattle.emit_code.proofs.Settled as settled
use Rattle.emit_code.specs.Laid.{FormWorded}
use Rattle.machine_steps_proof.specs.Laid.{fetched, target_of, start_of, HasWord, HasTwoWords, HasCall, HasReturn, HasRow, IsLaidAt}
use Rattle.machine_steps_proof.proofs.Rows.{IsWordRow}
use Rattle.machine_steps_proof.proofs.Linked.{unlinked, word_listed}
use Rattle.machine_steps_proof.proofs.Listed.{uses_listed, returns_op, branch_inverted, no_call_listed, calls_listed, left_listed}
use Rattle.machine_steps_proof.specs.Images.{code_line, HasAllWords, IsImageOf, ImagesAreLaid}
use Rattle.machine_steps_proof.proofs.Addresses.{address_next, address_end, first_address}
use Rattle.machine_steps_proof.proofs.Standing.{AtSite, at_site, word_below, word_at_is, bytes}
use Rattle.machine_steps_proof.proofs.Placed.{word_stays, does_not_return, some_of, if_some, leads_to}
use Rattle.machine_steps_proof.proofs.Placed.{inverted_taken, same_place, exit_target, line_first, line_second}

-- a jump to a register's content is one
jumps_self : (link r : ℕ) → is_jump_to link r (LinksTo link r 0) ≡ true
jumps_self link r =
    ap (λ (b : Bool). b && (nat_eq r r && true)) (eq-eqb link link refl) ∙ ap (λ (b : Bool). b && true) (eq-eqb r r refl)

module _ (l : Layout) (image : Image) (has : HasAllWords l) (is : IsImageOf l image) where
  address : Pos → ℕ
  address p = address_in l p

  all_of : (k : ℕ) (s : Site) → slice_get (sites_of l.framed) k ≡ Some s → fetched l.framed s.point ≡ Here s.item
  all_of k s e =
      let p = settled.placed 0 l.framed.blocks k s e in
      let b : p.counted ≡ p.block = (let q = p.is in omega (arith, q)) in
      ap (fetched l.framed) p.point ∙ ap (λ (n : ℕ). fetched l.framed (pos_in n p.index)) b
      ∙ settled.fetched l.framed.blocks p.block p.index s.item p.item

  site : (p : Pos) (i : Item) → fetched l.framed p ≡ Here i → AtSite l image has (record { point = p; item = i })
  site p i e =
      let own : p.block ≡ 0 + p.block = omega arith in
      at_site l image has is all_of _ (record { point = p; item = i })
      (site_from 0 l.framed.blocks p.block p.item _ p.block i (settled.item_at l.framed.blocks p.block p.item i e) refl own)

  -- a block and an index
  block_at : (p : Pos) (i : Item) → fetched l.framed p ≡ Here i → (c : Block) × (slice_get l.framed.blocks p.block ≡ Some c)
      × (slice_get c.items p.item ≡ Some i)
  block_at p i e =
      let s = Rattle.machine_steps_proof.proofs.Points.stands_at l.framed p i e in
      (s.block, Rattle.machine_steps_proof.proofs.Points.dropped l.framed.blocks p.block s.block s.rest s.found, s.at)

  next_address : (p : Pos) (i : Item) → fetched l.framed p ≡ Here i → address_in l (below p) ≡ address_in l p + size_of (l.long p) i
  next_address p i e =
      let b = block_at p i e in
      let one : p.item + 1 ≡ suc p.item = omega arith in
      ap (λ (n : ℕ). address_in l (pos_in p.block n)) one ∙ address_next l p.block p.item b.0 i b.1 b.2

  module _ (p : Pos) (i : Item) (c : Instruction) (k : Option ℕ) (here : fetched l.framed p ≡ Here i) (kind : i.kind ≡ Code c k) where
    a : ℕ
    a = address_in l p

    form : Form
    form = form_of (l.long p) (Code c k)

    st : AtSite l image has (record { point = p; item = i })
    st = site p i here

    words_are : words_at l (record { point = p; item = i }) ≡ form_words l (address_in l p) c (form_of (l.long p) (Code c k))
    words_are = ap (kind_words l p) kind

    lines_are : lines_at l (record { point = p; item = i }) ≡ form_lines l.framed (address_in l p) i.origin c (form_of (l.long p) (Code c k))
    lines_are = ap (kind_lines l (record { point = p; item = i })) kind

    size_is : size_of (l.long p) i ≡ form_size (form_of (l.long p) (Code c k))
    size_is = ap (λ (z : ItemKind). form_size (form_of (l.long p) z)) kind

    has_it : FormWorded l (address_in l p) c (form_of (l.long p) (Code c k))
    has_it = has.words p i c k here kind

    fit : row_of c ≡ Unfit → ⊥
    fit = has.fits p i c k here kind

    -- by the form
    module _ (x : Form) (is_form : form_of (l.long p) (Code c k) ≡ x) where
      text : drop (address_in l p) image.text ≡ bytes (form_words l (address_in l p) c x) ++ st.more
      text = st.text ∙ ap (λ (ws : List ℕ). bytes ws ++ st.more) (words_are ∙ ap (form_words l (address_in l p) c) is_form)

      lines : (n : ℕ) → address_in l p ≤ n → line_at image.lines n ≡ line_at (map code_line (form_lines l.framed (address_in l p) i.origin c x) ++ st.others) n
      lines n le = st.lines n le ∙ ap (λ (ls : List Rattle.emit_code.specs.Listed.Line). line_at (map code_line ls ++ st.others) n)
          (lines_are ∙ ap (form_lines l.framed (address_in l p) i.origin c) is_form)

      next : address_in l (below p) ≡ address_in l p + form_size x
      next = next_address p i here ∙ ap (λ (n : ℕ). address_in l p + n) (size_is ∙ ap form_size is_form)

    -- a line at a counter
    at_line : (m : Machine) (n : ℕ) (y : CodeLine) → m.counter ≡ n → line_at image.lines n ≡ Some y →
        machine_step image m ≡ does_line image y (call_of (row_of y.instruction)) m
    at_line m n y e g = ap (λ (o : Option CodeLine). does_at image o m) (ap (line_at image.lines) e ∙ g)

    -- a word that isn't the return's: the text has that of the operation o, and linking makes it that of the operation u
    do_word : (m : Machine) (n : ℕ) (y : CodeLine) (o u : MachineOp) (rest : List ℕ) (target object : ℕ) (part : ℤ) (r : Row) → m.counter ≡ n →
        call_of (row_of y.instruction) ≡ None → left_by (row_of y.instruction) ≡ None →
        line_at image.lines n ≡ Some y → drop n image.text ≡ to_le_bytes w32 (word_of o) ++ rest →
        linked_word m.symbols (row_of y.instruction) (word_of o) ≡ word_of u → IsTrue (is_encodable u) →
        machine_row n u ≡ placed target object part r →
        IsWordRow r → machine_step image m ≡ machine.does (placed target object part r) m
    do_word m n y o u rest target object part r e none stays g t linked fits row w =
        at_line m n y e g ∙ ap (λ (z : Option Call). does_line image y z m) none
        ∙ ap (λ (z : Option (Ending Callee)). does_left image y z m) stays
        ∙ ap (λ (z : Option ℕ). does_word y (option_map (linked_word m.symbols (row_of y.instruction)) z) m)
        (ap (word_at image.text) e ∙ word_at_is l image has n (word_of o) rest (word_below o) t)
        ∙ ap (λ (z : ℕ). does_word y (Some z) m) linked
        ∙ ap (λ (b : Bool). cond b (Ends (record { way = Back; values = map (register m) (implicit_uses y.instruction.operands) }))
        (does_operation (decoded (word_of u)) m))
        (ne_eqb (word_of u) return_word (does_not_return u n target object part r fits row w))
        ∙ ap (λ (z : Option MachineOp). does_operation z m) (is_decoded u (word_of u) fits refl)
        ∙ ap (λ (z : ℕ). machine.does (machine_row z u) m) e ∙ ap (λ (z : MachineRow). machine.does z m) row

    small : (q : Pos) → address_in l q < 2 ^ 64
    small q = let h = has.small q in omega (arith, h)

    exits : (n : ℕ) → (row_exit (row_of c) ≡ Perhaps n) ⊎ (row_exit (row_of c) ≡ Always n) →
        at_offset (address_in l p) (offset_to l (address_in l p) (row_exit (row_of c))) ≡ start_of l.framed image (λ q. address_in l q) (target_of (row_of c))
    exits n h = elim h as (λ _. at_offset (address_in l p) (offset_to l (address_in l p) (row_exit (row_of c))) ≡ start_of l.framed image (λ q. address_in l
        q) (target_of (row_of c))) [
          | inl e ↦ ap (λ (x : Exit). at_offset (address_in l p) (offset_to l (address_in l p) x)) e
              ∙ leads_to (address_in l p) _ (small p) (small (block_start (suc (index_of (Rattle.mir_func.specs.SoundFrame.body_of l.framed.blocks) n))))
              ∙ ap (λ (z : ℕ). start_of l.framed image (λ q. address_in l q) z) (sym (exit_target (row_of c) n h))
          | inr e ↦ ap (λ (x : Exit). at_offset (address_in l p) (offset_to l (address_in l p) x)) e
              ∙ leads_to (address_in l p) _ (small p) (small (block_start (suc (index_of (Rattle.mir_func.specs.SoundFrame.body_of l.framed.blocks) n))))
              ∙ ap (λ (z : ℕ). start_of l.framed image (λ q. address_in l q) z) (sym (exit_target (row_of c) n h))
        ]

    one_word : form_of (l.long p) (Code c k) ≡ OneWord → IsWordRow (row_of c) → call_of (row_of c) ≡ None →
        HasWord l.framed image (λ q. address_in l q) p i (row_of c)
    one_word f w none =
        let o = some_of (operation_at l (address_in l p) c) (subst (FormWorded l (address_in l p) c) f has_it) in
        let y : CodeLine = code_line (line (address_in l p) i.origin (listed l.framed c)) in
        let offset = offset_to l (address_in l p) (row_exit (row_of c)) in
        let object = object_offset l.framed (object_named (row_of c)) in
        let to = start_of l.framed image (λ q. address_in l q) (target_of (row_of c)) in
        let at_it : line_at image.lines (address_in l p) ≡ Some y = lines OneWord f (address_in l p) (omega arith)
        ∙ line_first y st.others (address_in l p) refl in
        record {
          line = y;
          stands = at_it;
          origin = refl;
          next = next OneWord f;
          step = λ m e.
              let links = lowered_links m.symbols offset object c o.0 o.1 in
              let part = immediate_of m.symbols (row_of c) in
              do_word m (address_in l p) y o.0 (linked_op m.symbols (part_named (row_of c)) o.0) st.more to object part (row_of c) e
              (no_call_listed l.framed c fit none) (left_listed l.framed c ∙ word_stays (row_of c) w) at_it
              (text OneWord f ∙ ap (λ (z : Option MachineOp). bytes (word_if z) ++ st.more) o.1)
              (word_listed m.symbols (word_of o.0) l.framed c ∙ links.word_is) links.encodable
              (links.acts (address_in l p) ∙ same_place (row_of c) _ to object part exits) w;
        }

    -- a word that goes to the address that a register holds
    jumps_there : (link r : ℕ) → form_of (l.long p) (Code c k) ≡ OneWord →
        ((target object : ℕ) → placed target object (pos 0) (row_of c) ≡ LinksTo link r 0) → (m : Machine) → m.counter ≡ address_in l p →
        word_jumps_to link r m.counter (word_at image.text m.counter) ≡ true
    jumps_there link r f row m g =
        let o = some_of (operation_at l (address_in l p) c) (subst (FormWorded l (address_in l p) c) f has_it) in
        let offset = offset_to l (address_in l p) (row_exit (row_of c)) in
        let object = object_offset l.framed (object_named (row_of c)) in
        let fits = if_some (λ (m : MachineOp). IsTrue (is_encodable m)) (operation_at l (address_in l p) c) o.0 (lowered_fits offset object c) o.1 in
        let acts = if_some (λ (m : MachineOp). (x : ℕ) → machine_row x m ≡ placed (at_offset x offset) object (pos 0) (row_of c))
        (operation_at l (address_in l p) c) o.0 (lowered_acts offset object c) o.1 in
        let t : drop (address_in l p) image.text ≡ to_le_bytes w32 (word_of o.0) ++ st.more =
        text OneWord f ∙ ap (λ (z : Option MachineOp). bytes (word_if z) ++ st.more) o.1 in
        ap (word_jumps_to link r m.counter)
        (ap (word_at image.text) g ∙ word_at_is l image has (address_in l p) (word_of o.0) st.more (word_below o.0) t)
        ∙ ap (operation_jumps_to link r m.counter) (is_decoded o.0 (word_of o.0) fits refl)
        ∙ ap (is_jump_to link r) (acts m.counter ∙ row (at_offset m.counter offset) object) ∙ jumps_self link r

    call_site : (call : Call) → row_of c ≡ Calls call → HasCall l.framed image (λ q. address_in l q) p i call
    call_site call e = by_callee call.callee refl where
      y : CodeLine
      y = code_line (line (address_in l p) i.origin (listed l.framed c))

      form_by : (callee : Callee) → call.callee ≡ callee → form_of (l.long p) (Code c k) ≡ cond (is_named callee) CallSite OneWord
      form_by callee q = ap (row_form (l.long p)) e ∙ ap (λ (z : Callee). cond (is_named z) CallSite OneWord) q

      steps : (m : Machine) → m.counter ≡ address_in l p → line_at image.lines (address_in l p) ≡ Some y →
          goes_to 1 call.callee m.counter (word_at image.text m.counter) ≡ true →
          machine_step image m ≡ step_call (callee_size call.callee) (called_at m call.callee) (passed m call) call.outgoing m m.script
      steps m g at_it there =
          at_line m (address_in l p) y g at_it ∙ ap (λ (r : Row). does_line image y (call_of r) m) (calls_listed l.framed c call e)
          ∙ ap (λ (b : Bool). cond b (step_call (callee_size call.callee) (called_at m call.callee) (passed m call) call.outgoing m m.script) BadWord) there

      by_callee : (callee : Callee) → call.callee ≡ callee → HasCall l.framed image (λ q. address_in l q) p i call
      by_callee (Named name) q =
          let f = form_by (Named name) q in
          let at_it : line_at image.lines (address_in l p) ≡ Some y = lines CallSite f (address_in l p) (omega arith)
          ∙ line_first y st.others (address_in l p) refl in
          record {
            line = y;
            stands = at_it;
            origin = refl;
            next = next CallSite f ∙ ap (λ (z : Callee). address_in l p + callee_size z) (sym q);
            step = λ m g. steps m g at_it (ap (λ (z : Callee). goes_to 1 z m.counter (word_at image.text m.counter)) q);
          }
      by_callee (Held r) q =
          let f = form_by (Held r) q in
          let at_it : line_at image.lines (address_in l p) ≡ Some y = lines OneWord f (address_in l p) (omega arith)
          ∙ line_first y st.others (address_in l p) refl in
          record {
            line = y;
            stands = at_it;
            origin = refl;
            next = next OneWord f ∙ ap (λ (z : Callee). address_in l p + callee_size z) (sym q);
            step = λ m g. steps m g at_it (ap (λ (z : Callee). goes_to 1 z m.counter (word_at image.text m.counter)) q
                ∙ jumps_there 1 r f (λ to object. ap (placed to object (pos 0)) e ∙ ap (placed_callee 1) q) m g);
          }

    abbrev line_there : CodeLine
    line_there = code_line (line (address_in l p) i.origin (listed l.framed c))

    ends_there : (ending : Ending Callee) → row_of c ≡ Returns ending → elsewhere ending ending.way ≡ Some ending →
        line_at image.lines (address_in l p) ≡ Some line_there →
        ((m : Machine) → m.counter ≡ address_in l p → leaves_by ending.way m.counter (word_at image.text m.counter) ≡ true) →
        HasReturn l.framed image (λ q. address_in l q) p i ending
    ends_there ending e left at_it there = record {
      line = line_there;
      stands = at_it;
      origin = refl;
      step = λ m g. at_line m (address_in l p) line_there g at_it
          ∙ ap (λ (z : Option Call). does_line image line_there z m) (no_call_listed l.framed c fit (ap call_of e))
          ∙ ap (λ (z : Option (Ending Callee)). does_left image line_there z m) (left_listed l.framed c ∙ ap left_by e ∙ left)
          ∙ ap (λ (b : Bool). cond b (Ends (result_at m ending)) BadWord) (there m g);
    }

    -- an ending for a callee
    left_site : (ending : Ending Callee) → row_of c ≡ Returns ending → elsewhere ending ending.way ≡ Some ending → (link : ℕ) (callee : Callee) →
        way_has_site ending.way ≡ is_named callee → placed_way ending.way ≡ placed_callee link callee →
        ((a : ℕ) (w : Option ℕ) → leaves_by ending.way a w ≡ goes_to link callee a w) → HasReturn l.framed image (λ q. address_in l q) p i ending
    left_site ending e left link (Named name) site row there =
        let f : form_of (l.long p) (Code c k) ≡ CallSite = ap (row_form (l.long p)) e ∙ ap (λ (z : Bool). cond z CallSite OneWord) site in
        ends_there ending e left (lines CallSite f (address_in l p) (omega arith) ∙ line_first line_there st.others (address_in l p) refl)
        (λ m g. there m.counter (word_at image.text m.counter))
    left_site ending e left link (Held r) site row there =
        let f : form_of (l.long p) (Code c k) ≡ OneWord = ap (row_form (l.long p)) e ∙ ap (λ (z : Bool). cond z CallSite OneWord) site in
        ends_there ending e left (lines OneWord f (address_in l p) (omega arith) ∙ line_first line_there st.others (address_in l p) refl)
        (λ m g. there m.counter (word_at image.text m.counter) ∙ jumps_there link r f (λ to object. ap (placed to object (pos 0)) e ∙ row) m g)

    back_site : (ending : Ending Callee) → row_of c ≡ Returns ending → ending.way ≡ Back → HasReturn l.framed image (λ q. address_in l q) p i ending
    back_site ending e back =
        let f : form_of (l.long p) (Code c k) ≡ OneWord = ap (row_form (l.long p)) e
        ∙ ap (λ (w : Way Callee). cond (way_has_site w) CallSite OneWord) back in
        let ret = returns_op c.op c.operands ending e back in
        let y : CodeLine = code_line (line (address_in l p) i.origin (listed l.framed c)) in
        let at_it : line_at image.lines (address_in l p) ≡ Some y = lines OneWord f (address_in l p) (omega arith)
        ∙ line_first y st.others (address_in l p) refl in
        let o : operation_at l (address_in l p) c ≡ Some return_op =
        ap (λ (x : Op). lowered (offset_to l (address_in l p) (row_exit (row_of c))) (object_offset l.framed (object_named (row_of c))) (record {
          op = x;
          operands = c.operands;
          volatile = c.volatile;
        })) ret.0 in
        let t : drop (address_in l p) image.text ≡ to_le_bytes w32 (word_of return_op) ++ st.more =
        text OneWord f ∙ ap (λ (z : Option MachineOp). bytes (word_if z) ++ st.more) o in
        let spelled : word_of return_op ≡ return_word = unfold word_of in refl in
        record {
          line = y;
          stands = at_it;
          origin = refl;
          step = λ m g. at_line m (address_in l p) y g at_it
              ∙ ap (λ (z : Option Call). does_line image y z m) (no_call_listed l.framed c fit (ap call_of e))
              ∙ ap (λ (z : Option (Ending Callee)). does_left image y z m) (left_listed l.framed c ∙ ap left_by e ∙ ap (elsewhere ending) back)
              ∙ ap (λ (z : Option ℕ). does_word y (option_map (linked_word m.symbols (row_of y.instruction)) z) m)
              (ap (word_at image.text) g ∙ word_at_is l image has (address_in l p) (word_of return_op) st.more (word_below return_op) t ∙ ap Some spelled)
              ∙ ap (λ (z : ℕ). does_word y (Some z) m) (unlinked m.symbols return_word (row_of y.instruction)
              (ap (λ (x : Op). part_named (row_by x (by_pointer l.framed c.operands))) ret.0))
              ∙ ap (λ (us : List ℕ). Ends (record { way = Back; values = map (register m) us })) (uses_listed l.framed c.operands)
              ∙ ap (λ (x : Ending Callee). Ends (result_at m x)) ret.1;
        }

    return_site : (ending : Ending Callee) → row_of c ≡ Returns ending → HasReturn l.framed image (λ q. address_in l q) p i ending
    return_site ending e = by_way ending.way refl where
      by_way : (w : Way Callee) → ending.way ≡ w → HasReturn l.framed image (λ q. address_in l q) p i ending
      by_way Back q = back_site ending e q
      by_way (Tail callee) q =
          left_site ending e (ap (elsewhere ending) q) 0 callee (ap (λ (w : Way Callee). way_has_site w) q) (ap placed_way q)
          (λ a x. ap (λ (w : Way Callee). leaves_by w a x) q)
      by_way (Never callee) q =
          left_site ending e (ap (elsewhere ending) q) 1 callee (ap (λ (w : Way Callee). way_has_site w) q) (ap placed_way q)
          (λ a x. ap (λ (w : Way Callee). leaves_by w a x) q)

    added_is : (o : Origin) → added_before o ≡ Before (position_of o)
    added_is (Kept q) = refl
    added_is (Before q) = refl

    skips : (op : BranchOp) (ra rb t : ℕ) (m : Machine) → t ≡ m.counter + 8 →
        does_row (Branches (inverse op) ra rb t) m ≡ Continues (cond (taken op (register m ra) (register m rb)) (past 4 m) (past 8 m))
    unfolding does_row
    skips op ra rb t m e =
        ap (λ (b : Bool). Continues (cond b (at t m) (past 4 m))) (inverted_taken op (register m ra) (register m rb))
        ∙ ap (λ (x : ℕ). Continues (cond (not (taken op (register m ra) (register m rb))) (at x m) (past 4 m))) e
        ∙ turned (taken op (register m ra) (register m rb)) where
          turned : (b : Bool) → Continues (cond (not b) (at (m.counter + 8) m) (past 4 m)) ≡ Continues (cond b (past 4 m) (past 8 m))
          turned true = refl
          turned false = refl

    jumps_to : (t : ℕ) (n : ℕ) (m : Machine) → machine.does (placed t 0 (pos 0) (Jumps n)) m ≡ Continues (at t m)
    unfolding does_row
    jumps_to t n m = refl

    two_words : (op : BranchOp) (ra rb n : ℕ) → row_of c ≡ Branches op ra rb n → form_of (l.long p) (Code c k) ≡ LongBranch n →
        HasTwoWords l.framed image (λ q. address_in l q) p i op ra rb n
    two_words op ra rb n e f =
        let A = address_in l p in
        let has_both = subst (FormWorded l (address_in l p) c) f has_it in
        let so = some_of (skip_operation c) has_both.0 in
        let jo = some_of (jump_operation l (address_in l p) n) has_both.1 in
        let inv = branch_inverted c.op c.operands op ra rb n e in
        let y1 : CodeLine = code_line (line (address_in l p) (added_before i.origin) (skip_of c)) in
        let y2 : CodeLine = code_line (line (address_in l p + 4) i.origin (jump_to n)) in
        let to = start_of l.framed image (λ q. address_in l q) n in
        let s = has.small p in
        let fits1 = if_some (λ (m : MachineOp). IsTrue (is_encodable m)) (skip_operation c) so.0 (lowered_fits (pos 8) 0 (inverted_branch c)) so.1 in
        let acts1 = if_some (λ (m : MachineOp). (x : ℕ) → machine_row x m ≡ placed (at_offset x (pos 8)) 0 (pos 0) (row_of (inverted_branch c)))
        (skip_operation c) so.0
        (lowered_acts (pos 8) 0 (inverted_branch c)) so.1 in
        let offset2 = offset_to l (address_in l p + 4) (Always n) in
        let fits2 = if_some (λ (m : MachineOp). IsTrue (is_encodable m)) (jump_operation l (address_in l p) n) jo.0 (lowered_fits (offset_to l (address_in l
        p + 4) (Always n)) 0 (jump_to n)) jo.1 in
        let acts2 = if_some (λ (m : MachineOp). (x : ℕ) →
        machine_row x m ≡ placed (at_offset x (offset_to l (address_in l p + 4) (Always n))) 0 (pos 0) (Jumps n))
        (jump_operation l (address_in l p) n) jo.0 (lowered_acts (offset_to l (address_in l p + 4) (Always n)) 0 (jump_to n)) jo.1 in
        let t1 : drop (address_in l p) image.text ≡ to_le_bytes w32 (word_of so.0) ++ (bytes (word_of jo.0 ∷ []) ++ st.more) =
        text (LongBranch n) f ∙ ap (λ (z : Option MachineOp). bytes (word_if z ++ word_if (jump_operation l (address_in l p) n)) ++ st.more) so.1
        ∙ ap (λ (z : Option MachineOp). bytes ((word_of so.0 ∷ []) ++ word_if z) ++ st.more) jo.1 in
        let t2 : drop (address_in l p + 4) image.text ≡ to_le_bytes w32 (word_of jo.0) ++ st.more =
        sym (Rattle.std.proofs.lemmas.List.drop-drop 4 (address_in l p) image.text) ∙ ap (drop 4) t1 in
        let at1 : line_at image.lines (address_in l p) ≡ Some y1 = lines (LongBranch n) f (address_in l p) (omega arith)
        ∙ line_first y1 (y2 ∷ st.others) (address_in l p) refl in
        let at2 : line_at image.lines (address_in l p + 4) ≡ Some y2 = lines (LongBranch n) f (address_in l p + 4) (omega arith)
        ∙ line_second y1 y2 st.others (address_in l p + 4) (λ q. omega (arith, q)) refl in
        record {
          line = y1;
          jump_line = y2;
          stands = at1;
          jump_stands = at2;
          origin = added_is i.origin;
          jump_origin = refl;
          next = next (LongBranch n) f;
          step = λ m g. do_word m (address_in l p) y1 so.0 so.0 (bytes (word_of jo.0 ∷ []) ++ st.more) (at_offset (address_in l p) (pos 8)) 0 (pos 0)
              (Branches (inverse op) ra rb n) g inv.1 inv.3 at1 t1 (unlinked m.symbols (word_of so.0) (row_of (skip_of c)) inv.2) fits1
              (acts1 (address_in l p) ∙ ap (placed (at_offset (address_in l p) (pos 8)) 0 (pos 0)) inv.0) tt
              ∙ skips op ra rb (at_offset (address_in l p) (pos 8)) m (let q : (address_in l p + 8 % 2 ^ 64) % 2 ^ 64 ≡ m.counter + 8 = omega (
                arith,
                s,
                g,
              ) in q);
          jump_step = λ m g. do_word m (address_in l p + 4) y2 jo.0 jo.0 st.more to 0 (pos 0) (Jumps n) g refl refl at2 t2 refl fits2
              (acts2 (address_in l p + 4) ∙ ap (λ (x : ℕ). placed x 0 (pos 0) (Jumps n)) (leads_to (address_in l p + 4) to (omega (arith, s))
              (small (block_start (suc (index_of (Rattle.mir_func.specs.SoundFrame.body_of l.framed.blocks) n)))))) tt
              ∙ jumps_to to n m;
        }

    plain : (r : Row) → row_of c ≡ r → IsWordRow r → call_of r ≡ None → row_form (l.long p) r ≡ OneWord → HasWord l.framed image (λ q. address_in l q) p i r
    plain r e w none f = subst (HasWord l.framed image (λ q. address_in l q) p i) e
        (one_word (ap (row_form (l.long p)) e ∙ f) (subst IsWordRow (sym e) w) (ap call_of e ∙ none))

    branch : (op : BranchOp) (ra rb n : ℕ) → row_of c ≡ Branches op ra rb n → (b : Bool) → l.long p ≡ b →
        HasWord l.framed image (λ q. address_in l q) p i (Branches op ra rb n) ⊎ HasTwoWords l.framed image (λ q. address_in l q) p i op ra rb n
    branch op ra rb n e true long = inr (two_words op ra rb n e (ap (row_form (l.long p)) e ∙ ap (λ (z : Bool). cond z (LongBranch n) OneWord) long))
    branch op ra rb n e false long = inl (plain (Branches op ra rb n) e tt refl (ap (λ (z : Bool). cond z (LongBranch n) OneWord) long))

    by_row : (r : Row) → row_of c ≡ r → HasRow l.framed image (λ q. address_in l q) p i r
    by_row (Fixes rd n) e = plain (Fixes rd n) e tt refl refl
    by_row (Moves rd rs) e = plain (Moves rd rs) e tt refl refl
    by_row (Sets rd op x y) e = plain (Sets rd op x y) e tt refl refl
    by_row (Addresses rd n o) e = plain (Addresses rd n o) e tt refl refl
    by_row (Loads rd op b o) e = plain (Loads rd op b o) e tt refl refl
    by_row (Stores op rs b o) e = plain (Stores op rs b o) e tt refl refl
    by_row (LoadsSlot rd n) e = plain (LoadsSlot rd n) e tt refl refl
    by_row (StoresSlot rs n) e = plain (StoresSlot rs n) e tt refl refl
    by_row (Branches op x y n) e = branch op x y n e (l.long p) refl
    by_row (Jumps n) e = plain (Jumps n) e tt refl refl
    by_row (Calls call) e = call_site call e
    by_row (Returns ending) e = return_site ending e
    by_row Unfit e = absurd (fit e)

  debug_next : (p : Pos) (i : Item) → fetched l.framed p ≡ Here i → is_code i.kind ≡ false → address_in l (below p) ≡ address_in l p
  debug_next p i e plain = next_address p i e ∙ no_size i.kind refl plain where
    no_size : (k : ItemKind) → i.kind ≡ k → is_code k ≡ false → address_in l p + size_of (l.long p) i ≡ address_in l p
    no_size (Code c n) q h = cc
    no_size (Mark v m) q h = ap (λ (k : ItemKind). address_in l p + form_size (form_of (l.long p) k)) q
        ∙ (let z : address_in l p + 0 ≡ address_in l p = omega arith in z)
    no_size (Phi r n) q h = ap (λ (k : ItemKind). address_in l p + form_size (form_of (l.long p) k)) q
        ∙ (let z : address_in l p + 0 ≡ address_in l p = omega arith in z)

  end_next : (p : Pos) (k n : ℕ) → fetched l.framed p ≡ EndOfBlock k n → address_in l (block_start (suc p.block)) ≡ address_in l p
  end_next p k n e = by_blocks (drop p.block l.framed.blocks) refl e where
    by_blocks : (bs : List Block) → drop p.block l.framed.blocks ≡ bs → fetch_in bs p.item ≡ EndOfBlock k n →
        address_in l (block_start (suc p.block)) ≡ address_in l p
    by_blocks [] d h = cc
    by_blocks (b ∷ rest) d h = address_end l p.block p.item b (Rattle.machine_steps_proof.proofs.Points.dropped l.framed.blocks p.block b rest d)
        (Rattle.sem_mir.proofs.Reading.front_end b.items p.item b.source_end rest k n h).0

  laid : IsLaidAt l.framed image
  laid = record {
    address = λ q. address_in l q;
    low = first_address l ∙ sym is.low;
    area = is.area;
    debug = debug_next;
    ends = end_next;
    code = λ p i c k e kind. by_row p i c k e kind (row_of c) refl;
  }

pub images_are_laid : ImagesAreLaid
images_are_laid l image has is = laid l image has is

-- each point is at the layout's address
pub images_addresses : (l : Layout) (image : Image) (has : HasAllWords l) (is : IsImageOf l image) (p : Pos) →
    (images_are_laid l image has is).address p ≡ address_in l p
unfolding images_are_laid laid
images_addresses l image has is p = refl
