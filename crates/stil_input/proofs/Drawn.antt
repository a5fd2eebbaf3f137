-- Pieces that are taken one after another, and what is still to come behind each.
use Rattle.std.proofs.Common.{◌≡◌, ℕ, ◌+◌, ◌-◌, ◌<◌, ◌≤◌, ◌⊎◌, Bool, true, false, List, [], ◌∷◌, ◌++◌, length, take, Option, Some, None, option_map, Err, refl, sym, ap, subst, ◌∙◌, arith, inl, inr, append-nil, append_assoc, length-append}
use Rattle.std.specs.Prelude.{◌||◌, nat_lt, is_some, if◌then◌else◌, IfSome}
use Rattle.std.proofs.lemmas.Bool.{ltb-false, true≢false}
use Rattle.std.proofs.lemmas.List.{length-take-le}
use Rattle.std.proofs.lemmas.Option.{none-some}
use Rattle.base_types.specs.declared.fault.ReadFault.{ReadFault}
use Rattle.base_types.proofs.TruthValues.{or_first}
use Rattle.base_types.specs.declared.fault.ReadFault.TheVariants as faults
use Rattle.desk_io.specs.Desk.{SlotState, IsOpen, with_unread, with_faults}
use Rattle.desk_io.specs.Causes.{HasRisen, HasFailed}
use Rattle.desk_io.specs.Prefixes.{IsFront, IsAtEnd, HasRead, HasTaken, HasTakenAndFailed}
use Rattle.desk_io.proofs.Steps.{took_none, took_failed}
use Rattle.stil_types.specs.declared.head.StilHead.{StilHead}
use Rattle.stil_parts.specs.declared.gap.Place.{Place}
use Rattle.stil_parts.specs.declared.gap.Place.TheVariants.{Top}
use Rattle.stil_parts.specs.declared.gap.Comment.TheVariants.{Outside}
use Rattle.stil_parts.specs.declared.gap.Point.{Point}
use Rattle.stil_parts.specs.declared.part.PartFault.{PartFault}
use Rattle.stil_parts.specs.Heads.{head_end}
use Rattle.stil_parts.specs.Coming.{Judge, largest, most, nothing, ending, to_come}
use Rattle.stil_parts.specs.Deciding.{Follows}
use Rattle.stil_parts.specs.Gaps.{gap_at}
use Rattle.stil_parts.specs.Parts.{part_at}
use Rattle.stil_calls.specs.Parts.{judge_of}
use Rattle.stil_reader.specs.Sayings.{Saying, Told, after, refusal, told, told_behind, told_from}
use Rattle.stil_stream.specs.Streams.{Streaming, fed, ended, largest_kept, shows_head, shows_part, is_shown, told_of, Wants, HandsOut, IsFirst, IsAgain, HeadAnswers}
use Rattle.stil_stream.specs.Streams as streams
use Rattle.stil_input.specs.declared.input.StilStop.{StilStop}
use Rattle.stil_input.specs.declared.input.StilStop.TheVariants as stops
use Rattle.stil_input.specs.Inputs.{Draws, coming, left, HasDrawn, HasDrawnAndFailed, Says, HasEnded, IsRefused, HasFed, HasStopped, Fails, GivesHead, Gives, stop_of}

-- bytes that were taken twice were taken once
taken-twice : (o : Option (List ℕ)) (x y : List ℕ) → option_map (λ w. x ++ w) (option_map (λ w. y ++ w) o) ≡ option_map (λ w. (x ++ y) ++ w) o
taken-twice None x y = refl
taken-twice (Some w) x y = ap Some (sym (append_assoc x y w))

pub took-then : (x y : List ℕ) (a b c : SlotState) → HasTaken x a b → HasTaken y b c → HasTaken (x ++ y) a c
took-then x y a b c one two = record {
  front = one.front ∙ ap (option_map (λ w. x ++ w)) two.front ∙ taken-twice c.unread x y;
  same = two.same ∙ ap (with_unread c.unread) one.same;
}

pub failed-then : (x y : List ℕ) (a b c : SlotState) → HasTaken x a b → HasTakenAndFailed y b c → HasTakenAndFailed (x ++ y) a c
failed-then x y a b c one two = record {
  front = one.front ∙ ap (option_map (λ w. x ++ w)) two.front ∙ taken-twice c.unread x y;
  risen = subst (λ (n : ℕ). HasRisen n c.faults) (ap (λ (s : SlotState). s.faults) one.same) two.risen;
  same = two.same ∙ ap (λ (s : SlotState). with_faults c.faults (with_unread c.unread s)) one.same;
}

pub drawn-failed : (a b c : SlotState) → HasDrawn a b → HasDrawnAndFailed b c → HasDrawnAndFailed a c
drawn-failed a b c one two = (one.0 ++ two.0, failed-then one.0 two.0 a b c one.1 two.1)

pub drawn-then : (a b c : SlotState) → HasDrawn a b → HasDrawn b c → HasDrawn a c
drawn-then a b c one two = (one.0 ++ two.0, took-then one.0 two.0 a b c one.1 two.1)

-- what a read of the slot says of the stream
pub has-fed : (s s' : Streaming) (old new : SlotState) (room : List ℕ) (count : ℕ) → HasRead count room old new → 0 < count → s' ≡ fed s (take count room) → HasFed s s' old new
has-fed s s' old new room count read some e = record {
  piece = take count room;
  some = omega (arith, length-take-le count room read.fits, some);
  taken = record { front = read.front; same = read.same };
  same = e;
}

pub has-stopped : (s s' : Streaming) (old new : SlotState) (room : List ℕ) (count : ℕ) → HasRead count room old new → count ≡ 0 → s' ≡ ended s → HasStopped s s' old new
has-stopped s s' old new room count read none e = record {
  taken = record { front = subst (λ (n : ℕ). IsFront (take n room) old new) none read.front; same = read.same };
  at_end = read.at_end none;
  same = e;
}

pub has-drawn : (old new : SlotState) (room : List ℕ) (count : ℕ) → HasRead count room old new → HasDrawn old new
has-drawn old new room count read = (take count room, record { front = read.front; same = read.same })

pub has-failed : (old new : SlotState) → HasFailed old new → HasDrawnAndFailed old new
has-failed old new failed = ([], took_failed [] old old new (took_none old) failed)

-- the stream has come so far: pieces were taken, and what is to come is as before
pub record HasCome (s s' : Streaming) (old new : SlotState) : Type 0 where
  pub comes : (head : StilHead) → coming head s old ≡ coming head s' new
  pub drawn : HasDrawn old new
  pub draws : Draws s' new
  pub in_head : s'.in_head ≡ s.in_head
  pub point : s'.point ≡ s.point

pub come-none : (s : Streaming) (slot : SlotState) → Draws s slot → HasCome s s slot slot
come-none s slot d = record {
  comes = λ head. refl;
  drawn = ([], took_none slot);
  draws = d;
  in_head = refl;
  point = refl;
}

-- a stream that is known by another name
pub come-as : (s a b : Streaming) (old new : SlotState) → b ≡ a → HasCome s a old new → HasCome s b old new
come-as s a b old new e come = subst (λ (t : Streaming). HasCome s t old new) (sym e) come

or-last : (a b c : Bool) → (a || (b || c)) ≡ false → c ≡ false
or-last true b c e = absurd (true≢false e)
or-last false true c e = absurd (true≢false e)
or-last false false c e = e

wants-so : (last in_head : Bool) (p : Point) (kept : List ℕ) → (last || (if in_head then shows_head kept else shows_part p kept)) ≡ false → (last ≡ false) × (nat_lt largest (length kept) ≡ false)
wants-so true in_head p kept e = absurd (true≢false e)
wants-so false true p kept e = (refl, or_first (nat_lt largest (length kept)) (is_some (head_end false Outside 0 kept)) e)
wants-so false false p kept e = (refl, or-last (nat_lt 0 (gap_at p.place p.comment kept).len) (is_some (part_at false p.place kept)) (nat_lt largest (length kept)) e)

pub wants-unended : (a b : Streaming) → Wants a b → b.ended ≡ false
wants-unended a b w = ap (λ (s : Streaming). s.ended) w.same ∙ (wants-so a.ended a.in_head a.point a.kept w.nothing_shown).0

pub wants-hungry : (a b : Streaming) → Wants a b → b.hungry ≡ true
wants-hungry a b w = ap (λ (s : Streaming). s.hungry) w.same

wants-few : (a b : Streaming) → Wants a b → length b.kept ≤ largest
wants-few a b w = rw w.same (ltb-false largest (length a.kept) (wants-so a.ended a.in_head a.point a.kept w.nothing_shown).1)

-- the stream's own answer of a piece more
pub come-wants : (s a b : Streaming) (old new : SlotState) → HasCome s a old new → Wants a b → HasCome s b old new
come-wants s a b old new h w = subst (λ (t : Streaming). HasCome s t old new) (sym w.same) (record {
  comes = h.comes;
  drawn = h.drawn;
  draws = record { is_open = h.draws.is_open; sound = h.draws.sound; ended = h.draws.ended };
  in_head = h.in_head;
  point = h.point;
})

-- what is to come is the same, whether a piece is still to be read or is kept
coming-fed : (head : StilHead) (s : Streaming) (piece : List ℕ) (o : Option (List ℕ)) → option_map (told_of head s) (option_map (λ rest. piece ++ rest) o) ≡ option_map (told_of head (fed s piece)) o
coming-fed head s piece None = refl
coming-fed head s piece (Some rest) = ap (λ (x : List ℕ). Some (told_from head s.in_head s.point x)) (sym (append_assoc s.kept piece rest))

coming-ended : (head : StilHead) (s : Streaming) (o : Option (List ℕ)) → option_map (told_of head s) (option_map (λ rest. [] ++ rest) o) ≡ option_map (told_of head (ended s)) o
coming-ended head s None = refl
coming-ended head s (Some rest) = refl

still-open : (taken : List ℕ) (old new : SlotState) → HasTaken taken old new → IsOpen old → IsOpen new
still-open taken old new t is = ap (λ (s : SlotState). s.stage) t.same ∙ is

-- a piece is taken, or the input is ended
pub come-drawn : (s a b : Streaming) (old mid new : SlotState) → HasCome s a old mid → a.ended ≡ false → (HasFed a b mid new ⊎ HasStopped a b mid new) → HasCome s b old new
come-drawn s a b old mid new h unended (inl f) = subst (λ (t : Streaming). HasCome s t old new) (sym f.same) (record {
  comes = λ head. h.comes head ∙ ap (option_map (told_of head a)) f.taken.front ∙ coming-fed head a f.piece new.unread;
  drawn = drawn-then old mid new h.drawn (f.piece, f.taken);
  draws = record {
    is_open = still-open f.piece mid new f.taken h.draws.is_open;
    sound = h.draws.sound;
    ended = λ e. absurd (true≢false (sym e ∙ unended));
  };
  in_head = h.in_head;
  point = h.point;
})
come-drawn s a b old mid new h unended (inr f) = subst (λ (t : Streaming). HasCome s t old new) (sym f.same) (record {
  comes = λ head. h.comes head ∙ ap (option_map (told_of head a)) f.taken.front ∙ coming-ended head a new.unread;
  drawn = drawn-then old mid new h.drawn ([], f.taken);
  draws = record { is_open = still-open [] mid new f.taken h.draws.is_open; sound = h.draws.sound; ended = λ e. f.at_end };
  in_head = h.in_head;
  point = h.point;
})

-- how many pieces may still be taken, at most
abbrev pub room : Streaming → ℕ
room s = if s.ended then 0 else (1 + (largest_kept - length s.kept))

fewer-pieces : (a b : Streaming) (old new : SlotState) → a.ended ≡ false → length a.kept ≤ largest → (HasFed a b old new ⊎ HasStopped a b old new) → room b < room a
fewer-pieces a b old new unended few (inl f) =
    rw (f.same, unended) (omega (arith, few, f.some, length-append a.kept f.piece))
fewer-pieces a b old new unended few (inr f) = rw (f.same, unended) (omega arith)

pub less-room : (a b c : Streaming) (old new : SlotState) → Wants a b → (HasFed b c old new ⊎ HasStopped b c old new) → room c < room a
less-room a b c old new w f =
    let same : room b ≡ room a = ap room w.same in
    subst (λ (n : ℕ). room c < n) same (fewer-pieces b c old new (wants-unended a b w) (wants-few a b w) f)

-- what may follow, as the slot tells it
follows : (last : Bool) (more : List ℕ) → (last ≡ true → more ≡ []) → Follows last more
follows true more e = e refl
follows false more e = tt

coming-out : (head : StilHead) (a b : Streaming) (text : List ℕ) (says : List Saying) (o : Option (List ℕ)) → (a.ended ≡ true → IfSome o (λ rest. rest ≡ [])) → HandsOut head a b text says
    → option_map (told_of head a) o ≡ option_map (after says) (option_map (told_of head b) o)
coming-out head a b text says None at_end h = refl
coming-out head a b text says (Some rest) at_end h = ap Some (h.comes rest (follows a.ended rest at_end))

-- fewer bytes are left to a point that counts some more
fewer-left : (given given' len : ℕ) → given' ≡ given + len → given' ≤ most → 0 < len → most - given' < most - given
fewer-left given given' len e le some = omega arith

fewer-head : (given given' len : ℕ) → given' ≡ given + len → given' ≤ most → 0 + (most - given') < 1 + (most - given)
fewer-head given given' len e le = omega arith

-- bytes are handed out
module _ (head : StilHead) (s a b : Streaming) (old new : SlotState) (come : HasCome s a old new) (text : List ℕ) (said : List Saying) (out : HandsOut head a b text said) where
  behind : b.in_head ≡ false
  behind = ap (λ (t : Streaming). t.in_head) out.rest

  says : left b < left s → Says head s b old new said
  says fewer = record {
    comes = come.comes head ∙ coming-out head a b text said new.unread come.draws.ended out;
    drawn = come.drawn;
    draws = record {
      is_open = come.draws.is_open;
      sound = ap (λ (t : Streaming). t.fault) out.rest ∙ come.draws.sound;
      ended = λ e. come.draws.ended (sym (ap (λ (t : Streaming). t.ended) out.rest) ∙ e);
    };
    behind = behind;
    fewer = fewer;
  }

  counted : b.point.given ≡ s.point.given + length text
  counted = out.given ∙ ap (λ (p : Point). p.given + length text) come.point

  pub says-head : s.in_head ≡ true → Says head s b old new said
  says-head is = says (rw (behind, is) (fewer-head s.point.given b.point.given (length text) counted out.early.given))

  pub says-behind : s.in_head ≡ false → 0 < length text → Says head s b old new said
  says-behind is some = says (rw (behind, is) (omega (arith, fewer-left s.point.given b.point.given (length text) counted out.early.given some)))

-- a fault comes first
coming-first : (head : StilHead) (a b : Streaming) (f : PartFault) (o : Option (List ℕ)) → (a.ended ≡ true → IfSome o (λ rest. rest ≡ [])) → IsFirst head a b f
    → IfSome (option_map (told_of head a) o) (λ told. told ≡ refusal f)
coming-first head a b f None at_end h = tt
coming-first head a b f (Some rest) at_end h = h.comes rest (follows a.ended rest at_end)

pub refuses : (head : StilHead) (s a b : Streaming) (old new : SlotState) (f : PartFault) → HasCome s a old new → IsFirst head a b f → IsRefused head s old new f
refuses head s a b old new f come h = record {
  comes = subst (λ (o : Option Told). IfSome o (λ told. told ≡ refusal f)) (sym (come.comes head)) (coming-first head a b f new.unread come.draws.ended h);
  drawn = come.drawn;
}

-- no fault was answered before
pub never-again : (s a b : Streaming) (old new : SlotState) (f : PartFault) → HasCome s a old new → IsAgain a b f → ⊥
never-again s a b old new f come again = none-some f (sym come.draws.sound ∙ again.stored)

-- the text ended
nothing-left : (head : StilHead) (p : Point) → p.place ≡ Top → told_behind head p [] ≡ record { says = []; fault = None }
unfolding to_come
nothing-left head p e = ap (λ (place : Place). told head (ending place)) e

coming-end : (head : StilHead) (a b : Streaming) (o : Option (List ℕ)) → a.in_head ≡ false → IfSome o (λ rest. rest ≡ []) → streams.HasEnded a b
    → IfSome (option_map (told_of head a) o) (λ told. told ≡ record { says = []; fault = None })
coming-end head a b None is at_end h = tt
coming-end head a b (Some rest) is at_end h =
    ap (λ (last : Bool). told_from head last a.point (a.kept ++ rest)) is ∙ ap (λ (x : List ℕ). told_behind head a.point (a.kept ++ x)) at_end
    ∙ ap (λ (x : List ℕ). told_behind head a.point (x ++ [])) h.nothing_left ∙ nothing-left head a.point h.at_top

pub has-ended : (head : StilHead) (s a b : Streaming) (old new : SlotState) → s.in_head ≡ false → HasCome s a old new → streams.HasEnded a b → HasEnded head s old new
has-ended head s a b old new is come h =
    let at_end = come.draws.ended h.ended in
    record {
      comes = subst (λ (o : Option Told). IfSome o (λ told. told ≡ record { says = []; fault = None })) (sym (come.comes head)) (coming-end head a b new.unread (come.in_head ∙ is) at_end h);
      drawn = come.drawn;
      at_end = at_end;
    }

-- what the stream refuses, and what a piece that didn't come answers
pub head-refuses : (s a b : Streaming) (old new : SlotState) (fault : ReadFault) → HasCome s a old new → HeadAnswers a b (Err fault) → GivesHead s b old new (Err (stop_of fault))
head-refuses s a b old new (faults.Fault fault) come (f, e, inl again) = absurd (never-again s a b old new f come again)
head-refuses s a b old new (faults.Fault fault) come (f, e, inr first) = (f, e, λ head. refuses head s a b old new f come (first head))
head-refuses s a b old new faults.NoMemory come e = come.drawn

pub head-fails : (s a b : Streaming) (old mid new : SlotState) (stop : StilStop) → HasCome s a old mid → Fails mid new stop → GivesHead s b old new (Err stop)
head-fails s a b old mid new (stops.Fault fault) come never = absurd never
head-fails s a b old mid new stops.Read come failed = drawn-failed old mid new come.drawn failed
head-fails s a b old mid new stops.NoMemory come drawn = drawn-then old mid new come.drawn drawn

pub behind-fails : (head : StilHead) (s a b : Streaming) (old mid new : SlotState) (stop : StilStop) → HasCome s a old mid → Fails mid new stop → Gives head s b old new (Err stop)
behind-fails head s a b old mid new (stops.Fault fault) come never = absurd never
behind-fails head s a b old mid new stops.Read come failed = drawn-failed old mid new come.drawn failed
behind-fails head s a b old mid new stops.NoMemory come drawn = drawn-then old mid new come.drawn drawn
