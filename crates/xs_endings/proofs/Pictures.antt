-- How a command ends that writes pictures one after the other and tells nothing itself.
use Rattle.std.proofs.Common.{◌≡◌, ℕ, ◌+◌, ◌≤◌, ◌<◌, List, [], ◌∷◌, ◌++◌, drop, Err, Option, refl, sym, ap, subst, ◌∙◌, arith, append_assoc, suc, zero}
use Rattle.std.specs.Io.KnownBytes.{Appends}
use Rattle.std.proofs.KnownBytes.{Appends-nil, Keeps-refl}
use Rattle.std.specs.List.{concat}
use Rattle.xs_notes.specs.declared.note.Note.{Note}
use Rattle.xs_endings.specs.declared.stop.Stop.{Stop}
use Rattle.xs_endings.specs.declared.stop.Stop.TheVariants as stop
use Rattle.xs_endings.specs.Ends.{Change, GotFront, change_of, ends_of, untouched}
use Rattle.xs_endings.specs.Endings.{HasFronts, IsFinished}
use Rattle.xs_endings.specs.Steps.{IsGiven, IsLeftToTell}
use Rattle.xs_endings.specs.Turns.{AreWritten, Before, Ends, HasSaidAll, IsTaken, Turn, Writes, after, nothing, piece_of}
use Rattle.xs_endings.proofs.Changes.{front_of_more, front_of_none, got_then_front}
use Rattle.xs_endings.proofs.Turns.{said_on}

-- a piece that was given whole, or not, as what comes of its turn
pub taken_of_given : (output : Change) (size : ℕ) (piece : List ℕ) (packets : ℕ) (why : Stop) → IsGiven {T = Unit {0}} output piece (Err why) → IsTaken output (Writes size piece packets) (Err why)
taken_of_given output size piece packets stop.WriteFault given = (given.failed refl, given.front)
taken_of_given output size piece packets stop.Memory given = given.front
taken_of_given output size piece packets stop.ReadFault given = absurd given.why
taken_of_given output size piece packets (stop.Told note) given = absurd given.why

-- What follows what was written

-- from a turn on: what is written, and the end, and what stands behind the piece of this turn
pub record Rest (IsTurn : Before → List ℕ → Turn → Type 0) (at : Before) (input : List ℕ) (turn : Turn) : Type 0 where
  pub more : List (List ℕ)
  pub end : Before
  pub last : List ℕ
  pub notes : List Note
  pub written : AreWritten IsTurn at input more end last
  pub ended : IsTurn end last (Ends notes)
  pub behind : List ℕ
  pub joined : concat more ≡ piece_of turn ++ behind

module _ (IsTurn : Before → List ℕ → Turn → Type 0) (P : List ℕ → Type 0) where
  -- a turn is there; and one that writes is one of the first so many, and leaves what has one again
  pub record Goes (most : ℕ) : Type 0 where
    pub there : (at : Before) (input : List ℕ) → P input → (turn : Turn) × IsTurn at input turn
    pub few : (at : Before) (input : List ℕ) (size : ℕ) (piece : List ℕ) (packets : ℕ) → IsTurn at input (Writes size piece packets) → at.pictures < most
    pub again : (input : List ℕ) (size : ℕ) → P input → P (drop size input)

  pub rest_from : (most : ℕ) → Goes most → (fuel : ℕ) (at : Before) (input : List ℕ) → P input → most ≤ at.pictures + fuel → (turn : Turn) → IsTurn at input turn → Rest IsTurn at input turn
  rest_from most goes fuel at input p enough (Ends notes) turn =
      record { more = []; end = at; last = input; notes = notes; written = (refl, refl); ended = turn; behind = []; joined = refl }
  rest_from most goes zero at input p enough (Writes size piece packets) turn = let few = goes.few at input size piece packets turn in absurd (omega (arith, few, enough))
  rest_from most goes (suc fuel) at input p enough (Writes size piece packets) turn =
      let next = goes.there (after at size packets) (drop size input) (goes.again input size p) in
      let enough' : most ≤ at.pictures + 1 + fuel = omega (arith, enough) in
      let others = rest_from most goes fuel (after at size packets) (drop size input) (goes.again input size p) enough' next.0 next.1 in
      record {
        more = piece ∷ others.more;
        end = others.end;
        last = others.last;
        notes = others.notes;
        written = (size, packets, turn, others.written);
        ended = others.ended;
        behind = concat others.more;
        joined = refl;
      }

  -- the pieces stand, and a front of what the next turn writes
  pub fronts : (most : ℕ) → Goes most → (at : Before) (input left : List ℕ) (pieces : List (List ℕ)) → AreWritten IsTurn nothing input pieces at left → P left
      → (turn : Turn) → IsTurn at left turn → (source : Change) (a b c : Option (List ℕ)) (f g h : ℕ) → Appends a b (concat pieces) → GotFront (change_of b c g h) (piece_of turn)
      → (held : Option (List ℕ)) (faults : ℕ) → HasFronts (HasSaidAll IsTurn input) input (ends_of source (change_of a c f h) (untouched held faults))
  fronts most goes at input left pieces written p turn is source a b c f g h got front held faults =
      let enough : most ≤ at.pictures + most = omega arith in
      let rest = rest_from most goes most at left p enough turn is in
      let part = got_then_front a b c f g h (concat pieces) (piece_of turn) got front in
      let whole : (concat pieces ++ piece_of turn) ++ rest.behind ≡ concat pieces ++ concat rest.more = append_assoc (concat pieces) (piece_of turn) rest.behind ∙ ap (λ l. concat pieces ++ l) (sym rest.joined) in
      record {
        said = record { out = concat pieces ++ concat rest.more; notes = rest.notes };
        answer = λ _. said_on IsTurn at rest.end input left rest.last pieces rest.more rest.notes written rest.written rest.ended;
        output = subst (GotFront (change_of a c f h)) whole (front_of_more (change_of a c f h) (concat pieces ++ piece_of turn) rest.behind part);
        notes = front_of_none held faults faults _;
      }

  -- the pieces stand, and that is all
  pub said_here : (at : Before) (input left : List ℕ) (pieces : List (List ℕ)) (notes : List Note) → AreWritten IsTurn nothing input pieces at left → IsTurn at left (Ends notes)
      → HasSaidAll IsTurn input (record { out = concat pieces; notes = notes })
  said_here at input left pieces notes written ended = record {
    first = record { pieces = pieces; end = at; rest = left; written = written; joined = refl };
    ended = ended;
  }

  pub finished : (at : Before) (input left : List ℕ) (pieces : List (List ℕ)) → AreWritten IsTurn nothing input pieces at left → IsTurn at left (Ends [])
      → (source output : Change) → Appends output.before output.after (concat pieces) → (held : Option (List ℕ)) (faults : ℕ)
      → IsFinished (HasSaidAll IsTurn input) (ends_of source output (untouched held faults)) 0
  finished at input left pieces written ended source output got held faults = record {
    said = record { out = concat pieces; notes = [] };
    answer = said_here at input left pieces [] written ended;
    answered = refl;
    output = got;
    notes = Appends-nil held;
  }

  pub left_to_tell : (at : Before) (input left : List ℕ) (pieces : List (List ℕ)) (why : Note) → AreWritten IsTurn nothing input pieces at left → IsTurn at left (Ends (why ∷ []))
      → (source output : Change) → Appends output.before output.after (concat pieces) → (held : Option (List ℕ)) (faults : ℕ)
      → IsLeftToTell (HasSaidAll IsTurn input) (ends_of source output (untouched held faults)) why
  left_to_tell at input left pieces why written ended source output got held faults = record {
    said = record { out = concat pieces; notes = why ∷ [] };
    answer = said_here at input left pieces (why ∷ []) written ended;
    note = refl;
    output = got;
    notes = Keeps-refl held;
  }
