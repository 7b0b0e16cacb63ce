-- The chain of open routines: its place on the stack, what an instruction's cost does to it, and what keeps it.
-- Assumes nothing.
use Rattle.std.specs.Prelude.{◌≡◌, ◌⊎◌, List, [], ◌∷◌, ℕ, ◌+◌, ◌≤◌, ◌<◌}
use Rattle.std.proofs.Common.{◌∙◌, ap, inl, inr, ⊎_elim, arith}
use Rattle.certificate.specs.Layout.{Certificate}
use Rattle.safety.specs.Rules.{ram_end}
use Rattle.safety.specs.Statement.{Opener, by_reset, by_call, by_interrupt, Frame, spends, outward}
use Rattle.safety.specs.Invariant.{at, Agree, AgreeMain, Room, Link, frame_size, Chain}
use Rattle.safety.proofs.Facts.{Global}

-- a step of routine m on a side keeps the stack from b on, and the cells of class 1 and 2 that it may not write
pub record Keeps (C : Certificate) (side m b : ℕ) (r r' : List ℕ) : Type 0 where
  pub stack : (x : ℕ) → b ≤ x → C.floor ≤ x → x < C.top → at r' x ≡ at r x
  pub cells : (x : ℕ) → x < ram_end → 1 ≤ C.class x → C.class x ≤ 2 → (C.class x ≡ side → C.limit x < m) → at r' x ≡ at r x

-- f is of the writer's side and not above its number, or waits on the main side for a service
abbrev pub Related : Certificate → ℕ → ℕ → Frame → Type 0
Related C side m f = ((C.side f.routine ≡ side) × (f.routine ≤ m)) ⊎ ((C.side f.routine ≡ 1) × (side ≡ 2))

module _ (C : Certificate) where
  pub chain_room : (r : List ℕ) (b : ℕ) (f : Frame) (fs : List Frame) → Chain C r b f fs → Room C b f
  chain_room r b f [] ch = ch.3
  chain_room r b f (g ∷ rest) ch = ch.0

  pub chain_top : (r : List ℕ) (b : ℕ) (f : Frame) (fs : List Frame) → Chain C r b f fs → b ≤ C.top
  chain_top r b f [] ch = omega arith
  chain_top r b f (g ∷ rest) ch =
      let h = chain_top r (b + frame_size f.opener + C.depth f.return_to) g rest ch.2 in
      omega arith

  -- what a link and the chain behind it say together, for a frame opened by o
  abbrev Linked : Opener → List ℕ → ℕ → Frame → List Frame → Type 0
  Linked o r b f [] = ⊥
  Linked o r b f (g ∷ rest) = Room C b f × Link C o r b f g × Chain C r (b + frame_size o + C.depth f.return_to) g rest

  -- the cost of an instruction, by what opened f
  link_cost : (c : ℕ) (o : Opener) (r : List ℕ) (b : ℕ) (f g : Frame) (rest : List Frame) → Linked o r b f (g ∷ rest)
      → ((b' : ℕ) → Chain C r b' g rest → Chain C r b' (spends c g) (outward c rest g.opener))
      → Linked o r b (spends c f) (outward c (g ∷ rest) o)
  link_cost c by_reset r b f g rest ch go = absurd ch.1
  link_cost c by_call r b f g rest ch go =
      let l = ch.1 in (
        ch.0,
        record {
          back = l.back;
          in_entries = l.in_entries;
          home = l.home;
          used = l.used;
          callee = l.callee;
          sides = l.sides;
          greater = l.greater;
          loaded = l.loaded;
          room = l.room;
          no_compare = l.no_compare;
          resumes = λ r' ag regs.
              let k = l.resumes r' ag regs in
              record { claims = k.claims; cost = λ n. let z = k.cost n in omega arith };
        },
        go _ ch.2,
      )
  link_cost c by_interrupt r b f g rest ch go =
      let l = ch.1 in (
        ch.0,
        record {
          back = l.back;
          flags = l.flags;
          in_entries = l.in_entries;
          home = l.home;
          used = l.used;
          service = l.service;
          side = l.side;
          loaded = l.loaded;
          room = l.room;
          resumes = λ r' ag regs. let k = l.resumes r' ag regs in record { claims = k.claims; compare = k.compare; cost = k.cost };
        },
        ch.2,
      )

  -- a chain of at least two, from its links
  chain_linked : (r : List ℕ) (b : ℕ) (f : Frame) (fs : List Frame) → Linked f.opener r b f fs → Chain C r b f fs
  chain_linked r b f [] l = absurd l
  chain_linked r b f (g ∷ rest) l = l

  -- an instruction's cost, to the innermost and outward
  pub chain_cost : (c : ℕ) (r : List ℕ) (b : ℕ) (f : Frame) (fs : List Frame) → Chain C r b f fs
      → Chain C r b (spends c f) (outward c fs f.opener)
  chain_cost c r b f [] ch = ch
  chain_cost c r b f (g ∷ rest) ch =
      chain_linked r b (spends c f) (outward c (g ∷ rest) f.opener)
      (link_cost c f.opener r b f g rest ch (λ b' h. chain_cost c r b' g rest h))

module _ (C : Certificate) (image : List ℕ) (global : Global C image) where
  -- a step of the innermost routine, m, on a side
  module _ (side m b₀ : ℕ) (r r' : List ℕ) (k : Keeps C side m b₀ r r') (side_low : 1 ≤ side) (side_high : side ≤ 2) where
    link_related : (o : Opener) (b : ℕ) (f g : Frame) → Link C o r b f g → Related C side m f → Related C side m g
    link_related by_reset b f g l = absurd l
    link_related by_call b f g l = ⊎_elim (λ h. inl (omega arith, omega arith)) (λ h. inr (omega arith, omega arith))
    link_related by_interrupt b f g l =
        let z : C.side f.routine ≡ 2 = ap C.side l.service ∙ global.service_side in
        ⊎_elim (λ h. inr (l.side, omega arith)) (λ h. absurd (omega arith))

    agree : (f g : Frame) → C.side f.routine ≡ C.side g.routine → Related C side m f → Agree C (C.side g.routine) f.routine r r'
    agree f g e =
        ⊎_elim (λ h x hx c l. k.cells x hx (omega arith) (omega arith) (λ q. omega arith))
        (λ h x hx c l. k.cells x hx (omega arith) (omega arith) (λ q. absurd (omega arith)))

    agree_main : (f : Frame) → f.routine ≡ 2 → Related C side m f → AgreeMain C r r'
    agree_main f e =
        let z : C.side f.routine ≡ 2 = ap C.side e ∙ global.service_side in
        ⊎_elim (λ h x hx c. k.cells x hx (omega arith) (omega arith) (λ q. absurd (omega arith)))
        (λ h x hx c. absurd (omega arith))

    link_keep : (o : Opener) (b : ℕ) (f g : Frame) → b₀ ≤ b → C.floor ≤ b → b + frame_size o ≤ C.top → Link C o r b f g
        → Related C side m f → Link C o r' b f g
    link_keep by_reset b f g hb hf ht l rel = l
    link_keep by_call b f g hb hf ht l rel = record {
      back = rw (k.stack b hb hf (omega arith), k.stack (b + 1) (omega arith) (omega arith) (omega arith)) l.back;
      in_entries = l.in_entries;
      home = l.home;
      used = l.used;
      callee = l.callee;
      sides = l.sides;
      greater = l.greater;
      loaded = l.loaded;
      room = l.room;
      no_compare = l.no_compare;
      resumes = λ r'' ag regs. l.resumes r'' (λ x hx c q. ag x hx c q ∙ agree f g l.sides rel x hx c q) regs;
    }
    link_keep by_interrupt b f g hb hf ht l rel = record {
      back = rw (k.stack (b + 1) (omega arith) (omega arith) (omega arith), k.stack (b + 2) (omega arith) (omega arith) (omega arith)) l.back;
      flags = rw (k.stack b hb hf (omega arith)) l.flags;
      in_entries = l.in_entries;
      home = l.home;
      used = l.used;
      service = l.service;
      side = l.side;
      loaded = l.loaded;
      room = l.room;
      resumes = λ r'' ag regs.
          rw (k.stack b hb hf (omega arith)) (l.resumes r'' (λ x hx c. ag x hx c ∙ agree_main f l.service rel x hx c) regs);
    }

    pub chain_keep : (b : ℕ) (f : Frame) (fs : List Frame) → b₀ ≤ b → Related C side m f → Chain C r b f fs → Chain C r' b f fs
    chain_keep b f [] hb rel ch = ch
    chain_keep b f (g ∷ rest) hb rel ch =
        let t = chain_top C r (b + frame_size f.opener + C.depth f.return_to) g rest ch.2 in
        let room = ch.0 in (
          ch.0,
          link_keep f.opener b f g hb (omega arith) (omega arith) ch.1 rel,
          chain_keep (b + frame_size f.opener + C.depth f.return_to) g rest (omega arith) (link_related f.opener b f g ch.1 rel) ch.2,
        )
