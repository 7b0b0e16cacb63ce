-- The bytes of an instruction decode to it, wherever they stand and whatever stands around them.
-- Assumes nothing.
use Rattle.std.specs.Prelude.{ℕ, suc, ◌+◌, ◌-◌, ◌*◌, ◌/◌, ◌%◌, ◌≤◌, ◌<◌, ◌≡◌, refl, Bool, true, false, Some, List, [], ◌∷◌, ◌++◌, eqb, ltb, length, get_or}
use Rattle.std.proofs.Common.{sym, ap, ◌∙◌, arith, add-zero, length-append, get_or-append-add, lt-ltb, le-leb, ltb-true}
use Rattle.base.specs.Choice.{pick}
use Rattle.base.specs.Outcome.{Outcome, and_then}
use Rattle.base.specs.Outcome.Outcome.{value, refused}
use Rattle.isa.specs.Map.{Cell, cell_at, cell_of, cell_length, cell_names, alu_row, unary_row, column_f}
use Rattle.isa.specs.Map.Cell.{unary, unary_at, pop, pop_at, push, push_at, jump_at, call_at, alu_work, alu_work_at, alu_reg, alu_reg_at, alu_imm, ldc_dec, ldc_inc, ldc_load, ldc_store}
use Rattle.isa.specs.Map.Cell.{load_reg, load_reg_at, load_imm, load_at_imm, load_at_reg, call, load_indexed, store_indexed, ldc_load_long, ldc_store_long}
use Rattle.isa.specs.Map.Cell.{load_work_at, load_at_work, ldc_load_short, ldc_store_short, load_work_reg, load_reg_work, jump_rel, load_work_imm, jump, inc_work, implied}
use Rattle.isa.specs.declared.Alu.{Alu}
use Rattle.isa.specs.declared.Unary.{Unary}
use Rattle.isa.specs.declared.UnaryRow.{UnaryRow}
use Rattle.isa.specs.declared.Implied.{Implied}
use Rattle.isa.specs.declared.Instruction.{Instruction}
use Rattle.columns.specs.Form.{form_of}
use Rattle.decode.specs.Decode.{decode_at, without_flags}
use Rattle.decode.specs.Names.{without_naming}
use Rattle.coded.specs.Operands.{nibbles}
use Rattle.instruction_bytes.specs.Bytes.{alu_code, unary_code, implied_code, in_row, bytes_of}

-- an operation's row holds it
alu_row_lem : (a : Alu) → alu_row (alu_code a) ≡ Some a
alu_row_lem Alu.Add = refl
alu_row_lem Alu.Adc = refl
alu_row_lem Alu.Sub = refl
alu_row_lem Alu.Sbc = refl
alu_row_lem Alu.Or = refl
alu_row_lem Alu.And = refl
alu_row_lem Alu.Tcm = refl
alu_row_lem Alu.Tm = refl
alu_row_lem Alu.Cp = refl
alu_row_lem Alu.Xor = refl

unary_row_lem : (u : Unary) → unary_row (unary_code u) ≡ UnaryRow.Op u
unary_row_lem Unary.Dec = refl
unary_row_lem Unary.Rlc = refl
unary_row_lem Unary.Inc = refl
unary_row_lem Unary.Com = refl
unary_row_lem Unary.Rl = refl
unary_row_lem Unary.Clr = refl
unary_row_lem Unary.Rrc = refl
unary_row_lem Unary.Sra = refl
unary_row_lem Unary.Rr = refl

implied_row : (p : Implied) → column_f (implied_code p) ≡ implied p
implied_row Implied.Idle = refl
implied_row Implied.Stop = refl
implied_row Implied.Di = refl
implied_row Implied.Ei = refl
implied_row Implied.Ret = refl
implied_row Implied.Iret = refl
implied_row Implied.Rcf = refl
implied_row Implied.Scf = refl
implied_row Implied.Ccf = refl
implied_row Implied.Nop = refl

-- halves of a byte, and of 16 bits
upper : (h l : ℕ) → l < 16 → (h * 16 + l) / 16 ≡ h
upper h l p = omega arith

lower : (h l : ℕ) → l < 16 → (h * 16 + l) % 16 ≡ l
lower h l p = omega arith

joined : (x : ℕ) → x / 256 * 256 + x % 256 ≡ x
joined x = omega arith

-- the first byte at column l, row h, and enough bytes behind it: the form of that cell
decode_first : (before : List ℕ) (h l : ℕ) (c : Cell) (rest : List ℕ) → l < 16 → cell_at l h ≡ c → cell_length c ≤ suc (length rest)
    → without_flags (decode_at (before ++ ((h * 16 + l) ∷ rest)) (length before)) ≡ form_of c h (get_or rest 0 0) (get_or rest 1 0) (get_or rest 2 0)
unfolding decode_at
decode_first before h l c rest p e q =
    let s : List ℕ = before ++ ((h * 16 + l) ∷ rest) in
    let n : length s ≡ length before + suc (length rest) = length-append before ((h * 16 + l) ∷ rest) in
    let first : get_or s (length before) 0 ≡ h * 16 + l
    = ap (λ (k : ℕ). get_or s k 0) (sym (add-zero (length before))) ∙ get_or-append-add before ((h * 16 + l) ∷ rest) 0 0 in
    let cell : cell_of (h * 16 + l) ≡ c = rw (upper h l p, lower h l p) e in
    let more : length before < length s = omega arith in
    let room : cell_length c ≤ length s - length before = omega arith in
    rw (
      lt-ltb _ _ more,
      first,
      cell,
      le-leb _ _ room,
      upper h l p,
      get_or-append-add before ((h * 16 + l) ∷ rest) 1 0,
      get_or-append-add before ((h * 16 + l) ∷ rest) 2 0,
      get_or-append-add before ((h * 16 + l) ∷ rest) 3 0,
    )
    (without_naming (cell_names c) _)

-- the bytes, if there are any, decode to i between these lists
abbrev Decodes : List ℕ → List ℕ → Instruction → Outcome (List ℕ) → Type 0
Decodes before behind i (value bs) = without_flags (decode_at (before ++ (bs ++ behind)) (length before)) ≡ value (i, length bs)
Decodes before behind i (refused k) = Unit {0}

module _ (before behind : List ℕ) where
  where_true : (i : Instruction) (t : Bool) (o : Outcome (List ℕ)) (k : ℕ) → (t ≡ true → Decodes before behind i o)
      → Decodes before behind i (pick t o (refused k))
  where_true i true o k f = f refl
  where_true i false o k f = tt

  where_false : (i : Instruction) (t : Bool) (o : Outcome (List ℕ)) (k : ℕ) → (t ≡ false → Decodes before behind i o)
      → Decodes before behind i (pick t (refused k) o)
  where_false i true o k f = tt
  where_false i false o k f = f refl

  -- two nibbles behind the byte at column l, row h
  in_nibbles : (i : Instruction) (h l : ℕ) (c : Cell) (hi lo : ℕ) (rest : List ℕ) → l < 16 → cell_at l h ≡ c
      → cell_length c ≤ suc (suc (length (rest ++ behind)))
      → (lo < 16 → form_of c h (hi * 16 + lo) (get_or (rest ++ behind) 0 0) (get_or (rest ++ behind) 1 0) ≡ value (i, suc (suc (length rest))))
      → Decodes before behind i (nibbles (h * 16 + l) hi lo rest)
  in_nibbles i h l c hi lo rest p e q f = go (ltb hi 16) (ltb lo 16) refl
    where
      go : (t u : Bool) → ltb lo 16 ≡ u
          → Decodes before behind i
          (and_then (pick t (pick u (value (hi * 16 + lo)) (refused 8)) (refused 8)) (λ b. value ((h * 16 + l) ∷ b ∷ rest)))
      go true true g = decode_first before h l c ((hi * 16 + lo) ∷ (rest ++ behind)) p e q ∙ f (ltb-true _ _ g)
      go true false g = tt
      go false u g = tt

  -- a row of columns 8 to E
  in_row_lem : (i : Instruction) (l : ℕ) (c : Cell) (h : ℕ) (rest : List ℕ) → l < 16 → cell_at l h ≡ c
      → cell_length c ≤ suc (length (rest ++ behind))
      → form_of c h (get_or (rest ++ behind) 0 0) (get_or (rest ++ behind) 1 0) (get_or (rest ++ behind) 2 0) ≡ value (i, suc (length rest))
      → Decodes before behind i (in_row l h rest)
  in_row_lem i l c h rest p e q f =
      where_true i (ltb h 16) (value ((h * 16 + l) ∷ rest)) 8 (λ g. decode_first before h l c (rest ++ behind) p e q ∙ f)

  each : (i : Instruction) → Decodes before behind i (bytes_of i)
  each (Instruction.UnaryReg u r) =
      rw (← add-zero (unary_code u * 16))
      (decode_first before (unary_code u) 0 (unary u) (r.0 ∷ behind) (omega arith) (rw (unary_row_lem u)) (omega arith))
  each (Instruction.UnaryAt u r) =
      decode_first before (unary_code u) 1 (unary_at u) (r.0 ∷ behind) (omega arith) (rw (unary_row_lem u)) (omega arith)
  each (Instruction.Pop r) = decode_first before 5 0 pop (r.0 ∷ behind) (omega arith) refl (omega arith)
  each (Instruction.PopAt r) = decode_first before 5 1 pop_at (r.0 ∷ behind) (omega arith) refl (omega arith)
  each (Instruction.Push r) = decode_first before 7 0 push (r.0 ∷ behind) (omega arith) refl (omega arith)
  each (Instruction.PushAt r) = decode_first before 7 1 push_at (r.0 ∷ behind) (omega arith) refl (omega arith)
  each (Instruction.IncWork r) = in_row_lem (Instruction.IncWork r) 14 inc_work r [] (omega arith) refl (omega arith) refl
  each (Instruction.AluWork a d s) =
      in_nibbles (Instruction.AluWork a d s) (alu_code a) 2 (alu_work a) d s [] (omega arith) (rw (alu_row_lem a)) (omega arith)
      (λ q. rw (upper d s q, lower d s q))
  each (Instruction.AluWorkAt a d s) =
      in_nibbles (Instruction.AluWorkAt a d s) (alu_code a) 3 (alu_work_at a) d s [] (omega arith) (rw (alu_row_lem a)) (omega arith)
      (λ q. rw (upper d s q, lower d s q))
  each (Instruction.AluReg a d s) =
      decode_first before (alu_code a) 4 (alu_reg a) (s.0 ∷ d.0 ∷ behind) (omega arith) (rw (alu_row_lem a)) (omega arith)
  each (Instruction.AluRegAt a d s) =
      decode_first before (alu_code a) 5 (alu_reg_at a) (s.0 ∷ d.0 ∷ behind) (omega arith) (rw (alu_row_lem a)) (omega arith)
  each (Instruction.AluImm a d x) =
      decode_first before (alu_code a) 6 (alu_imm a) (d.0 ∷ x ∷ behind) (omega arith) (rw (alu_row_lem a)) (omega arith)
  each (Instruction.LoadReg d s) = decode_first before 14 4 load_reg (s.0 ∷ d.0 ∷ behind) (omega arith) refl (omega arith)
  each (Instruction.LoadRegAt d s) = decode_first before 14 5 load_reg_at (s.0 ∷ d.0 ∷ behind) (omega arith) refl (omega arith)
  each (Instruction.LoadAtReg d s) = decode_first before 15 5 load_at_reg (s.0 ∷ d.0 ∷ behind) (omega arith) refl (omega arith)
  each (Instruction.LoadImm d x) = decode_first before 14 6 load_imm (d.0 ∷ x ∷ behind) (omega arith) refl (omega arith)
  each (Instruction.LoadAtImm d x) = decode_first before 13 6 load_at_imm (d.0 ∷ x ∷ behind) (omega arith) refl (omega arith)
  each (Instruction.LoadWorkAt d s) =
      in_nibbles (Instruction.LoadWorkAt d s) 12 7 load_work_at d s [] (omega arith) refl (omega arith) (λ q. rw (upper d s q, lower d s q))
  each (Instruction.LoadAtWork d s) =
      in_nibbles (Instruction.LoadAtWork d s) 13 7 load_at_work d s [] (omega arith) refl (omega arith) (λ q. rw (upper d s q, lower d s q))
  each (Instruction.LoadIndexed r b x) =
      in_nibbles (Instruction.LoadIndexed r b x) 8 7 load_indexed r b (x ∷ []) (omega arith) refl (omega arith) (λ q. rw (upper r b q, lower r b q))
  each (Instruction.StoreIndexed r b x) =
      in_nibbles (Instruction.StoreIndexed r b x) 9 7 store_indexed r b (x ∷ []) (omega arith) refl (omega arith) (λ q. rw (upper r b q, lower r b q))
  each (Instruction.LoadWorkReg r s) = in_row_lem (Instruction.LoadWorkReg r s) 8 load_work_reg r (s.0 ∷ []) (omega arith) refl (omega arith) refl
  each (Instruction.LoadRegWork d r) = in_row_lem (Instruction.LoadRegWork d r) 9 load_reg_work r (d.0 ∷ []) (omega arith) refl (omega arith) refl
  each (Instruction.LoadWorkImm r x) = in_row_lem (Instruction.LoadWorkImm r x) 12 load_work_imm r (x ∷ []) (omega arith) refl (omega arith) refl
  each (Instruction.LdcLoad r p) =
      in_nibbles (Instruction.LdcLoad r p) 12 3 ldc_load r p [] (omega arith) refl (omega arith) (λ q. rw (upper r p q, lower r p q))
  each (Instruction.LdcStore r p) =
      in_nibbles (Instruction.LdcStore r p) 13 3 ldc_store r p [] (omega arith) refl (omega arith) (λ q. rw (upper r p q, lower r p q))
  each (Instruction.LdcDec r p) =
      in_nibbles (Instruction.LdcDec r p) 14 2 ldc_dec r p [] (omega arith) refl (omega arith) (λ q. rw (upper r p q, lower r p q))
  each (Instruction.LdcInc r p) =
      in_nibbles (Instruction.LdcInc r p) 14 3 ldc_inc r p [] (omega arith) refl (omega arith) (λ q. rw (upper r p q, lower r p q))
  each (Instruction.LdcLoadShort r p x) =
      in_nibbles (Instruction.LdcLoadShort r p x) 14 7 ldc_load_short r p (x ∷ []) (omega arith) refl (omega arith) (λ q. rw (upper r p q, lower r p q))
  each (Instruction.LdcStoreShort r p x) =
      in_nibbles (Instruction.LdcStoreShort r p x) 15 7 ldc_store_short r p (x ∷ []) (omega arith) refl (omega arith) (λ q. rw (upper r p q, lower r p q))
  each (Instruction.LdcLoadLong r p x) =
      where_false (Instruction.LdcLoadLong r p x) (ltb p 2) (nibbles 0xA7 r p (x % 256 ∷ x / 256 ∷ [])) 8
      (λ g.
      in_nibbles (Instruction.LdcLoadLong r p x) 10 7 ldc_load_long r p (x % 256 ∷ x / 256 ∷ []) (omega arith) refl (omega arith)
      (λ q. rw (upper r p q, lower r p q, g, joined x)))
  each (Instruction.LdcStoreLong r p x) =
      where_false (Instruction.LdcStoreLong r p x) (ltb p 2) (nibbles 0xB7 r p (x % 256 ∷ x / 256 ∷ [])) 8
      (λ g.
      in_nibbles (Instruction.LdcStoreLong r p x) 11 7 ldc_store_long r p (x % 256 ∷ x / 256 ∷ []) (omega arith) refl (omega arith)
      (λ q. rw (upper r p q, lower r p q, g, joined x)))
  each (Instruction.LdcLoadDirect r false to) =
      in_nibbles (Instruction.LdcLoadDirect r false to) 10 7 ldc_load_long r 0 (to.0 % 256 ∷ to.0 / 256 ∷ []) (omega arith) refl (omega arith)
      (λ q. rw (upper r 0 q, lower r 0 q, joined to.0))
  each (Instruction.LdcLoadDirect r true to) =
      in_nibbles (Instruction.LdcLoadDirect r true to) 10 7 ldc_load_long r 1 (to.0 % 256 ∷ to.0 / 256 ∷ []) (omega arith) refl (omega arith)
      (λ q. rw (upper r 1 q, lower r 1 q, joined to.0))
  each (Instruction.LdcStoreDirect r false to) =
      in_nibbles (Instruction.LdcStoreDirect r false to) 11 7 ldc_store_long r 0 (to.0 % 256 ∷ to.0 / 256 ∷ []) (omega arith) refl (omega arith)
      (λ q. rw (upper r 0 q, lower r 0 q, joined to.0))
  each (Instruction.LdcStoreDirect r true to) =
      in_nibbles (Instruction.LdcStoreDirect r true to) 11 7 ldc_store_long r 1 (to.0 % 256 ∷ to.0 / 256 ∷ []) (omega arith) refl (omega arith)
      (λ q. rw (upper r 1 q, lower r 1 q, joined to.0))
  each (Instruction.JumpRel c x) = in_row_lem (Instruction.JumpRel c x) 11 jump_rel c (x ∷ []) (omega arith) refl (omega arith) refl
  each (Instruction.Jump c to) = in_row_lem (Instruction.Jump c to) 13 jump c (to.0 / 256 ∷ to.0 % 256 ∷ []) (omega arith) refl (omega arith) (rw (joined to.0))
  each (Instruction.JumpAt r) =
      where_true (Instruction.JumpAt r) (eqb (r.0 % 2) 0) (value (0x30 ∷ r.0 ∷ [])) 12
      (λ g. decode_first before 3 0 jump_at (r.0 ∷ behind) (omega arith) refl (omega arith) ∙ rw g)
  each (Instruction.Call to) =
      decode_first before 15 6 call (to.0 / 256 ∷ to.0 % 256 ∷ behind) (omega arith) refl (omega arith) ∙ rw (joined to.0)
  each (Instruction.CallAt r) =
      where_true (Instruction.CallAt r) (eqb (r.0 % 2) 0) (value (0xF4 ∷ r.0 ∷ [])) 12
      (λ g. decode_first before 15 4 call_at (r.0 ∷ behind) (omega arith) refl (omega arith) ∙ rw g)
  each (Instruction.Implied p) =
      decode_first before (implied_code p) 15 (implied p) behind (omega arith) (implied_row p) (omega arith)

  pub encoded_decodes : (i : Instruction) (bs : List ℕ) → bytes_of i ≡ value bs
      → without_flags (decode_at (before ++ (bs ++ behind)) (length before)) ≡ value (i, length bs)
  encoded_decodes i bs e = rw e at (each i)
