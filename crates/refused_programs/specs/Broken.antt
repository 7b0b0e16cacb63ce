-- Each program is refused, and a run of it from reset breaks one promise of demand 3. So demand 3 says something, and the rules that refuse them
-- are needed.
-- Assumes nothing.
use Rattle.std.specs.Prelude.{◌≡◌, refl, ◌≢◌, List, ℕ, zero, suc, ◌+◌, ◌*◌, ◌/◌, ◌≤◌, ◌<◌, length, replicate}
use Rattle.std.proofs.Common.{sym, subst, arith}
use Rattle.std.proofs.lemmas.List.{length-replicate}
use Rattle.base.specs.Addresses.{rom_addr}
use Rattle.base.specs.Cells.{filled_cells}
use Rattle.base.specs.Lengths.{record_length}
use Rattle.semantics.specs.Reset.{reset_state}
use Rattle.semantics.specs.ResetLaws.{reset_is_reset}
use Rattle.semantics.specs.Run.{record_at}
use Rattle.certificate.specs.declared.Verdict.TheVariants.{Accepted, Refused}
use Rattle.safety.specs.Verdicts.{verdict_on}
use Rattle.safety.specs.Statement.{Opener, by_reset, by_call, by_interrupt, Demand3, StepRight, Monitored, Walk, from_reset, monitor_step}
use Rattle.refused_programs.specs.Programs.{Program, certificate, stopping, straying, unnamed, pointing, pushing, returning, looping}
use Rattle.refused_programs.specs.Programs.{charging, popping, fetching, fetching_small, fetching_large, resuming, serving, entering, crossing, jumping, leaving, exceeding}
use Rattle.refused_programs.specs.Opened.{opened}
use Rattle.refused_programs.specs.Computed.{verdict_is}

-- refused at an address, and not as demanded
pub record Breaks (p : Program) (rule address : ℕ) : Type 0 where
  pub verdict : verdict_on p.part.rom (certificate p) p.image ≡ Refused rule (rom_addr address)
  pub broken : Demand3 p.part (certificate p) p.image → ⊥

module _ (p : Program) where
  -- step k is right, counted from record i on
  abbrev RightAt : ℕ → (ℕ → ℕ) → List ℕ → ℕ → Monitored → Type 0
  RightAt zero tables schedule i m = StepRight p.part (certificate p) p.image tables m (record_at schedule i)
  RightAt (suc k) tables schedule i m =
      RightAt k tables schedule (i + 1) (monitor_step p.part (certificate p) p.image m (record_at schedule i))

  right_at : (k : ℕ) (tables : ℕ → ℕ) (schedule : List ℕ) (i : ℕ) (m : Monitored)
      → Walk p.part (certificate p) p.image (suc k) tables schedule i m → RightAt k tables schedule i m
  right_at zero tables schedule i m w = w.0
  right_at (suc k) tables schedule i m w =
      right_at k tables schedule (i + 1) (monitor_step p.part (certificate p) p.image m (record_at schedule i)) w.1

  -- step k of the run from the reset state whose open bytes are 0; each byte of the schedule is 4, so each record requests the first external
  -- source's interrupt
  step : (d : Demand3 p.part (certificate p) p.image) (k : ℕ)
      → RightAt k d.0 (replicate (record_length * suc k) 4) 0 (from_reset reset_state)
  step d k =
      let schedule : List ℕ = replicate (record_length * suc k) 4 in
      let l = length-replicate {A = ℕ} (record_length * suc k) 4 in
      let e : length schedule / record_length ≡ suc k = omega arith in
      let b = filled_cells (λ (i x : ℕ). x < 256) (record_length * suc k) 4 (λ (i : ℕ). omega arith) (λ (i : ℕ). omega arith) in
      let r = d.1 reset_state reset_is_reset schedule (record { whole = omega arith; bytes = b }) in
      right_at k d.0 schedule 0 (from_reset reset_state)
      (subst (λ (n : ℕ). Walk p.part (certificate p) p.image n d.0 schedule 0 (from_reset reset_state)) e r.walk)

-- it stops
pub stopping_breaks : Breaks stopping 22 0x100
unfolding opened
stopping_breaks = record {
  verdict = verdict_is stopping tt refl;
  broken = λ d. let z : ◌≡◌ {A = ℕ} 11 0 = (step stopping d 0).goes in omega arith;
}

-- main's instruction begins where an entry names routine 3
pub straying_breaks : Breaks straying 21 0x100
unfolding opened
straying_breaks = record {
  verdict = verdict_is straying tt refl;
  broken = λ d. let z : ◌≡◌ {A = ℕ} 3 1 = (step straying d 1).event.begins in omega arith;
}

-- the routine that CALL opens has no entry
pub unnamed_breaks : Breaks unnamed 21 0x103
unfolding opened
unnamed_breaks = record {
  verdict = verdict_is unnamed tt refl;
  broken = λ d. let z : 1 ≤ 0 = (step unnamed d 2).event.named in omega arith;
}

-- R1 is 0, and register 00H lies in no table
pub pointing_breaks : Breaks pointing 24 0x100
unfolding opened
pointing_breaks = record {
  verdict = verdict_is pointing tt refl;
  broken = λ d. let z : (0 ≡ d.0 0x100) × (d.0 0x100 ≢ 0) = (step pointing d 0).event.pointers.1 in z.1 (sym z.0);
}

-- behind the sixth PUSH SP is BAH, below the floor
pub pushing_breaks : Breaks pushing 25 0x105
unfolding opened
pushing_breaks = record {
  verdict = verdict_is pushing tt refl;
  broken = λ d. let z : 0xBB ≤ 0xBA = ((step pushing d 11).stack refl).0 in omega arith;
}

-- RET takes the byte that was pushed for the high half of its address, and goes to 0001H and not behind CALL
pub returning_breaks : Breaks returning 25 0x122
unfolding opened
returning_breaks = record {
  verdict = verdict_is returning tt refl;
  broken = λ d. let z : ◌≡◌ {A = ℕ} 0x001 0x106 = (step returning d 3).event.returning.0 in omega arith;
}

-- the second jump brings routine 3 to 12 cycles
pub looping_breaks : Breaks looping 27 0x120
unfolding opened
looping_breaks = record {
  verdict = verdict_is looping tt refl;
  broken = λ d. let z : 12 ≤ 10 = (step looping d 3).within.0 (λ e. omega arith) in omega arith;
}

-- with the 8 cycles of routine 4 routine 3 spends 30
pub charging_breaks : Breaks charging 27 0x120
unfolding opened
charging_breaks = record {
  verdict = verdict_is charging tt refl;
  broken = λ d. let z : 30 ≤ 22 = (step charging d 4).within.0 (λ e. omega arith) in omega arith;
}

-- behind POP SP is C1H, above the top
pub popping_breaks : Breaks popping 25 0x103
unfolding opened
popping_breaks = record {
  verdict = verdict_is popping tt refl;
  broken = λ d. let z : 0xC1 ≤ 0xC0 = ((step popping d 1).stack refl).1 in omega arith;
}

-- RR2 gives 1000H, the first address behind ROM; an LDC that reads outside ROM stops, so it breaks two promises at once
pub fetching_breaks : Breaks fetching 24 0x102
unfolding opened
fetching_breaks = record {
  verdict = verdict_is fetching tt refl;
  broken = λ d.
      let stops : ◌≡◌ {A = ℕ} 14 0 = (step fetching d 1).goes in
      let outside : 0x1000 < 0x1000 = (step fetching d 1).event.pointers in
      omega arith;
}

-- request 04: RR2 gives 0800H, the first address behind the 2K part's ROM
pub fetching_small_breaks : Breaks fetching_small 24 0x102
unfolding opened
fetching_small_breaks = record {
  verdict = verdict_is fetching_small tt refl;
  broken = λ d.
      let stops : ◌≡◌ {A = ℕ} 14 0 = (step fetching_small d 1).goes in
      let outside : 0x800 < 0x800 = (step fetching_small d 1).event.pointers in
      omega arith;
}

-- with the same code and the same certificate the 4K part's image is accepted
pub fetching_large_accepted : verdict_on fetching_large.part.rom (certificate fetching_large) fetching_large.image ≡ Accepted
unfolding opened
fetching_large_accepted = verdict_is fetching_large tt refl

-- IRET takes the pushed byte for FLAGS, FLAGS for the high half of its address and the high half for the low one: to 0001H and not to 0107H
pub resuming_breaks : Breaks resuming 25 0x142
unfolding opened
resuming_breaks = record {
  verdict = verdict_is resuming tt refl;
  broken = λ d. let z : ◌≡◌ {A = ℕ} 0x001 0x107 = (step resuming d 5).event.returning.0 in omega arith;
}

-- IRET costs 10 cycles, and they are the service's
pub serving_breaks : Breaks serving 27 0x140
unfolding opened
serving_breaks = record {
  verdict = verdict_is serving tt refl;
  broken = λ d. let z : 10 ≤ 9 = (step serving d 4).within.0 (λ e. omega arith) in omega arith;
}

-- request 03: the entry's 5 cycles are the service's, and with IRET it spends 15
pub entering_breaks : Breaks entering 27 0x140
unfolding opened
entering_breaks = record {
  verdict = verdict_is entering tt refl;
  broken = λ d. let z : 15 ≤ 10 = (step entering d 4).within.0 (λ e. omega arith) in omega arith;
}

-- R1 is 0 and then 1: the instruction at 0102H points into table 1 and into table 2
pub crossing_breaks : Breaks crossing 24 0x102
unfolding opened
crossing_breaks = record {
  verdict = verdict_is crossing tt refl;
  broken = λ d.
      let first : 1 ≡ d.0 0x102 = (step crossing d 1).event.pointers.1.0 in
      let second : 2 ≡ d.0 0x102 = (step crossing d 4).event.pointers.1.0 in
      omega arith;
}

-- a computed jump runs
pub jumping_breaks : Breaks jumping 22 0x100
unfolding opened
jumping_breaks = record { verdict = verdict_is jumping tt refl; broken = λ d. (step jumping d 0).event.pointers }

-- no call opened main
abbrev Called : Opener → Type 0
Called by_reset = ⊥
Called by_call = Unit {0}
Called by_interrupt = ⊥

-- RET goes to 0000H, which stands for main's return address, but no call opened main
pub leaving_breaks : Breaks leaving 22 0x100
unfolding opened
leaving_breaks = record {
  verdict = verdict_is leaving tt refl;
  broken = λ d. let z : ◌≡◌ {A = ℕ} 0x000 0x000 × (by_reset ≡ by_call) = (step leaving d 0).event.returning in subst Called (sym z.1) tt;
}

-- request 14: R3 is 4, which gives R4 the byte that is too large, and register 10H lies in no table
pub exceeding_breaks : Breaks exceeding 26 0x10B
unfolding opened
exceeding_breaks = record {
  verdict = verdict_is exceeding tt refl;
  broken = λ d. let z : (0 ≡ d.0 0x10E) × (d.0 0x10E ≢ 0) = (step exceeding d 5).event.pointers.1 in z.1 (sym z.0);
}
