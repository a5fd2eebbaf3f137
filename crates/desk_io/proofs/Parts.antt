-- Parts of a desk in memory: what a read and a write of one of them does to the desk.
use Rattle.std.proofs.Common.{◌≡◌, ◌<◌, ◌≤◌, ◌+◌, ◌-◌, ℕ, List, [], ◌++◌, length, take, drop, min, get_or, set, Option, Some, refl, sym, ◌∙◌, ap, subst, arith, take-append-drop}
use Rattle.std.proofs.lemmas.Grind.{common_steps}
use Rattle.std.proofs.lemmas.List.{drop-drop}
use Rattle.desk_io.specs.declared.slot.Slot.{Slot}
use Rattle.desk_io.specs.declared.slot.Stage.{Stage}
use Rattle.desk_io.specs.Number.{number}
use Rattle.desk_io.specs.Prefixes.{HasRead, HasWritten}
use Rattle.desk_io.specs.Memory.{PartState, MemoryState, IsMemoryDesk, state_of, part_at}
use Rattle.desk_io.specs.Files.{bytes_of}
use Rattle.desk_io.proofs.Slots.{number_small}

none_left : (n : ℕ) (xs : List ℕ) → length xs ≤ n → drop n xs ≡ []
none_left n xs h = grind (arith, common_steps)

parted : (taken count : ℕ) (file : List ℕ) → drop taken file ≡ take count (drop taken file) ++ drop (taken + count) file
parted taken count file = sym (take-append-drop count (drop taken file)) ∙ ap (λ (xs : List ℕ). take count (drop taken file) ++ xs) (drop-drop count taken file)

-- the part reads the next bytes of its file
part_reads : (old new : PartState) (file room : List ℕ) (count portion : ℕ) → 0 < portion → 0 < length room → old.taken ≤ length file → count ≡ min portion (min (length room) (length file - old.taken)) → take count room ≡ take count (drop old.taken file) → new ≡ record old { taken = old.taken + count } → HasRead count room (state_of old file) (state_of new file)
part_reads old new file room count portion some wide within is moved same =
    let taken : new.taken ≡ old.taken + count = ap (λ (p : PartState). p.taken) same in
    record {
      fits = omega arith;
      front = ap Some (parted old.taken count file ∙ ap (λ (xs : List ℕ). xs ++ drop (old.taken + count) file) (sym moved) ∙ ap (λ (n : ℕ). take count room ++ drop n file) (sym taken));
      at_end = λ none. none_left new.taken file (omega arith);
      same = ap (λ (p : PartState). state_of (record p { taken = new.taken }) file) same;
    }

-- the part of a slot is the one that stands at its number
part_of : (slot : Slot) (parts : List PartState) (old : PartState) (at : ℕ) → at ≡ number slot → length parts ≡ 13 → old ≡ get_or parts at old → part_at parts slot ≡ old
part_of slot parts old at here all found = let small = number_small slot in grind (arith, common_steps)

part_set : (slot : Slot) (parts : List PartState) (new : PartState) (at : ℕ) → at ≡ number slot → length parts ≡ 13 → part_at (set parts at new) slot ≡ new
part_set slot parts new at here all = let small = number_small slot in grind (arith, common_steps)

pub part_reads_at : (slot : Slot) (parts : List PartState) (old new : PartState) (at : ℕ) (files : List (Slot × List ℕ)) (file room : List ℕ) (count portion : ℕ) →
    0 < portion → 0 < length room → ((slot : Slot) → (part_at parts slot).taken ≤ length (bytes_of files slot)) → count ≡ min portion (min (length room) (length file - old.taken)) → at ≡ number slot → length parts ≡ 13 → old ≡ get_or parts at old → file ≡ bytes_of files slot → take count room ≡ take count (drop old.taken file) → new ≡ record old { taken = old.taken + count } →
    HasRead count room (state_of (part_at parts slot) (bytes_of files slot)) (state_of (part_at (set parts at new) slot) (bytes_of files slot))
part_reads_at slot parts old new at files file room count portion some wide within is here all found whole moved same =
    let before : part_at parts slot ≡ old = part_of slot parts old at here all found in
    let after : part_at (set parts at new) slot ≡ new = part_set slot parts new at here all in
    let enough : old.taken ≤ length file = let P : PartState → Type 0 = λ p. p.taken ≤ length file in subst P before (rw whole (within slot)) in
    rw (before, after, ← whole) (part_reads old new file room count portion some wide enough is moved same)

-- the part writes the first bytes of the piece
part_writes : (old new : PartState) (file piece : List ℕ) (count portion : ℕ) → 0 < portion → 0 < length piece → length old.written < old.room → count ≡ min portion (min (length piece) (old.room - length old.written)) → new.written ≡ old.written ++ take count piece → new ≡ record old { written = new.written } → HasWritten count piece (state_of old file) (state_of new file)
part_writes old new file piece count portion some wide space is appended same = record {
  fits = omega arith;
  appended = ap Some appended;
  nothing = λ none. absurd (omega arith);
  counted = λ more. ap (λ (p : PartState). p.faults) same;
  unread = ap (λ (p : PartState). Some (drop p.taken file)) same;
  stage = ap (λ (p : PartState). p.stage) same;
}

pub part_writes_at : (slot : Slot) (parts : List PartState) (old new : PartState) (at : ℕ) (file piece : List ℕ) (count portion : ℕ) →
    0 < portion → 0 < length piece → length old.written < old.room → count ≡ min portion (min (length piece) (old.room - length old.written)) → at ≡ number slot → length parts ≡ 13 → old ≡ get_or parts at old → new.written ≡ old.written ++ take count piece → new ≡ record old { written = new.written } →
    HasWritten count piece (state_of (part_at parts slot) file) (state_of (part_at (set parts at new) slot) file)
part_writes_at slot parts old new at file piece count portion some wide space is here all found appended same =
    let before : part_at parts slot ≡ old = part_of slot parts old at here all found in
    let after : part_at (set parts at new) slot ≡ new = part_set slot parts new at here all in
    rw (before, after) (part_writes old new file piece count portion some wide space is appended same)

-- a desk stays one where a part takes nothing and keeps its room
pub desk_kept : (desk : MemoryState) (old new : PartState) (at : ℕ) → IsMemoryDesk desk → at < 13 → old ≡ get_or desk.parts at old → new ≡ record old { written = new.written } → IsMemoryDesk (record desk { parts = set desk.parts at new })
desk_kept desk old new at is small found same =
    let taken : new.taken ≡ old.taken = ap (λ (p : PartState). p.taken) same in
    let room : new.room ≡ old.room = ap (λ (p : PartState). p.room) same in
    record {
      all = grind (arith, common_steps, is.all);
      some = is.some;
      within = λ slot. let before = is.within slot in let all = is.all in grind (arith, common_steps);
      rooms = λ slot output. let before = is.rooms slot output in let all = is.all in grind (arith, common_steps);
    }

-- a desk reads the next bytes of a file
pub next_bytes : (stage : Stage) (written : Option (List ℕ)) (faults taken after : ℕ) (file room : List ℕ) (count portion : ℕ) →
    0 < portion → 0 < length room → taken ≤ length file → count ≡ min portion (min (length room) (length file - taken)) → take count room ≡ take count (drop taken file) → after ≡ taken + count →
    HasRead count room (record { stage = stage; unread = Some (drop taken file); written = written; faults = faults }) (record { stage = stage; unread = Some (drop after file); written = written; faults = faults })
next_bytes stage written faults taken after file room count portion some wide within is moved then = record {
  fits = omega arith;
  front = ap Some (parted taken count file ∙ ap (λ (xs : List ℕ). xs ++ drop (taken + count) file) (sym moved) ∙ ap (λ (n : ℕ). take count room ++ drop n file) (sym then));
  at_end = λ none. none_left after file (omega arith);
  same = refl;
}
