-- What `Hidden` and `StaysGood` state. Assumes nothing.
use mathlib.Core.Bool.{Bool, true, false}
use Prim.Native.Nat.{ℕ, ◌+◌, ◌-◌, ◌%◌, min}
use mathlib.Core.Path.{◌≡◌, refl}
use native.Mathlib.Nat.{mod-lt}
use native.Mathlib.Omega.{arith}
use lib.Dec.{ltb}
use borrow.Author.Tests.{lt-ltb}
use Rattle.std.specs.Prelude.{if◌then◌else◌}
use Rattle.machine.specs.Answers.{refused}
use Rattle.machine.specs.Depths.{depth_of}
use Rattle.machine.specs.Good.{counter_limit}
use Rattle.machine.proofs.DepthLaws.{depth_pos}
use Rattle.machine.proofs.GoodLaws.{Good, parts, whole}
use Rattle.machine.proofs.Places.{places}
use Rattle.machine.specs.declared.Mode.{Mode}
use Rattle.machine.specs.declared.Registers.{Registers}
use Rattle.machine.specs.declared.Entry.{Entry}
use Rattle.machine.specs.declared.Decision.{Decision}
use Rattle.machine.specs.declared.Refusal.TheVariants.{ChangeNotPossible}
use Rattle.qualifying.specs.Changes.{possible_trap, possible_return}
use Rattle.transfers.specs.Counts.{live_cycles, cycles_of, tallied}
use Rattle.transfers.specs.Records.{side_pc, advanced, retreated}
use Rattle.qualifying.specs.Filters.{freezes_of}
use Rattle.qualifying.specs.Outcomes.{rasemu_of, live_of, retired_outcome, trap_outcome}
use Rattle.transfers.specs.Transfers.{done_of, retired_of, crossing, crossed_of, taken_trap, trap_of, taken_return, return_of}
use Rattle.transfers.specs.Laws.{Hidden, StaysGood}
use Rattle.machine.specs.declared.Outcome.{Outcome}
use Rattle.machine.specs.declared.Outcome.TheVariants.{Nothing, Record, Pop, Swap, Freeze}

pub hidden : (r : Registers) (old : Entry) → Hidden r old
unfolding cycles_of retired_of retired_outcome live_of done_of crossed_of trap_of taken_trap trap_outcome freezes_of return_of taken_return crossing side_pc
hidden r old =
    record {
      retired = (λ n w h. rw h);
      trap_source = (λ t epc h. rw h);
      trap_target = (λ t handler h. rw h);
      trap_cycles = (λ t n h. rw h);
      return_source = (λ t pc h. rw h);
      return_target = (λ t target h. rw h);
      return_cycles = (λ t n h. rw h);
    }

-- the counter as an event finds it has 27 bits
good_tally : (r : Registers) (rasemu : Bool) (n : ℕ) → Good r → Good (tallied r rasemu n)
unfolding live_cycles cycles_of
good_tally r rasemu n q =
    record { code = q.code; pointer = q.pointer; control = q.control; guest = q.guest; counter = go (live_of r) rasemu }
  where
    go : (live ra : Bool) → ltb (if live then live_cycles r.cycles ra n else r.cycles).counter counter_limit ≡ true
    go true true = refl
    go true false = lt-ltb (min (r.cycles.counter + n) (counter_limit - 1)) counter_limit (omega arith)
    go false ra = q.counter

-- an outcome done keeps the registers free of number 5
good_done : (r : Registers) (old e : Entry) (rasemu : Bool) (o : Outcome) → Good r → Good (done_of r old e rasemu o).registers
unfolding done_of advanced retreated
good_done r old e rasemu Nothing q = q
good_done r old e rasemu Record q =
    record {
      code = q.code;
      pointer = lt-ltb _ _ (mod-lt (r.buffer.wrptr % depth_of r.buffer.code + 1) (depth_pos r.buffer.code));
      control = q.control;
      guest = q.guest;
      counter = refl;
    }
good_done r old e rasemu Pop q =
    record {
      code = q.code;
      pointer = lt-ltb _ _ (places.in_use r.buffer.code r.buffer.wrptr 0);
      control = q.control;
      guest = q.guest;
      counter = q.counter;
    }
good_done r old e rasemu Swap q = q
good_done r old e rasemu Freeze q =
    record { code = q.code; pointer = q.pointer; control = q.control; guest = q.guest; counter = q.counter }

-- and so does a possible trap or return
good_crossed : (r : Registers) (old : Entry) (m : Mode) (n : ℕ) (e : Entry) (o : Outcome) → Good r → Good (crossed_of r old m n e o).registers
unfolding crossed_of
good_crossed r old m n e o q =
    let ra = rasemu_of r r.mode m in
    let p = good_done (tallied r ra n) old e ra o (good_tally r ra n q) in
    record { code = p.code; pointer = p.pointer; control = p.control; guest = p.guest; counter = p.counter }

-- a possible change of mode, or a refusal
good_change : (b : Bool) (r : Registers) (d : Decision) → Good r → Good d.registers → Good (if b then d else refused r ChangeNotPossible).registers
good_change true r d q p = p
good_change false r d q p = q

pub stays_good : (r : Registers) (old : Entry) → StaysGood r old
unfolding retired_of trap_of taken_trap return_of taken_return
stays_good r old =
    record {
      retired = (λ n w h. whole _ (good_done _ old _ _ (retired_outcome r n) (good_tally r _ w.cycles (parts r h))));
      trap = (λ t h.
          let q = parts r h in
          whole _ (good_change (possible_trap r.mode t.mode) r (taken_trap r old t) q (good_crossed r old _ _ _ _ q)));
      trap_return = (λ t h.
          let q = parts r h in
          whole _ (good_change (possible_return r.mode t.mode) r (taken_return r old t) q (good_crossed r old _ _ _ _ q)));
    }
