-- Pictures one after the other.
use Rattle.std.proofs.Common.{◌≡◌, ℕ, ◌≤◌, List, [], ◌∷◌, ◌++◌, length, drop, refl, sym, ap, subst, ◌∙◌, append-nil}
use Rattle.std.specs.List.{concat}
use Rattle.std.proofs.lemmas.List.{drop-append-le}
use Rattle.std.proofs.lemmas.List.Folds.{concat-append}
use Rattle.xs_notes.specs.declared.note.Note.{Note}
use Rattle.xs_endings.specs.Turns.{AreWritten, Before, Ends, HasSaidAll, Turn, Writes, after, nothing}

-- one more piece
pub joined_more : (pieces : List (List ℕ)) (piece : List ℕ) → concat (pieces ++ piece ∷ []) ≡ concat pieces ++ piece
joined_more pieces piece = concat-append pieces (piece ∷ []) ∙ ap (λ l. concat pieces ++ l) (append-nil piece)

module _ (IsTurn : Before → List ℕ → Turn → Type 0) where
  -- the first pieces, and then others
  pub written_on : (at middle end : Before) (input left rest : List ℕ) (pieces more : List (List ℕ)) → AreWritten IsTurn at input pieces middle left
      → AreWritten IsTurn middle left more end rest → AreWritten IsTurn at input (pieces ++ more) end rest
  written_on at middle end input left rest [] more first second = subst (λ (b : Before). AreWritten IsTurn b input more end rest) (sym first.0) (subst (λ l. AreWritten IsTurn middle l more end rest) (sym first.1) second)
  written_on at middle end input left rest (piece ∷ pieces) more first second =
      (first.0, first.1, first.2, written_on (after at first.0 first.1) middle end (drop first.0 input) left rest pieces more first.3 second)

  -- one more at the end
  pub written_more : (at end : Before) (input rest : List ℕ) (pieces : List (List ℕ)) (size : ℕ) (piece : List ℕ) (packets : ℕ) → AreWritten IsTurn at input pieces end rest
      → IsTurn end rest (Writes size piece packets) → AreWritten IsTurn at input (pieces ++ piece ∷ []) (after end size packets) (drop size rest)
  written_more at end input rest pieces size piece packets first turn =
      written_on at end (after end size packets) input rest (drop size rest) pieces (piece ∷ []) first (size, packets, turn, (refl, refl))

  -- what is said first begins all that is said
  pub said_on : (end last : Before) (input left rest : List ℕ) (pieces more : List (List ℕ)) (notes : List Note) → AreWritten IsTurn nothing input pieces end left
      → AreWritten IsTurn end left more last rest → IsTurn last rest (Ends notes)
      → HasSaidAll IsTurn input (record { out = concat pieces ++ concat more; notes = notes })
  said_on end last input left rest pieces more notes first second ended = record {
    first = record {
      pieces = pieces ++ more;
      end = last;
      rest = rest;
      written = written_on nothing end last input left rest pieces more first second;
      joined = sym (concat-append pieces more);
    };
    ended = ended;
  }

  -- A turn that writes looks at the bytes that it takes, and no further.
  abbrev pub Looks : Type 0
  Looks = (at : Before) (input more : List ℕ) (size : ℕ) (piece : List ℕ) (packets : ℕ) → IsTurn at input (Writes size piece packets)
      → (size ≤ length input) × IsTurn at (input ++ more) (Writes size piece packets)

  -- so what is written stays written, whatever bytes follow
  pub written_whatever_follows : Looks → (at end : Before) (input rest more : List ℕ) (pieces : List (List ℕ)) → AreWritten IsTurn at input pieces end rest
      → AreWritten IsTurn at (input ++ more) pieces end (rest ++ more)
  written_whatever_follows looks at end input rest more [] written = (written.0, ap (λ l. l ++ more) written.1)
  written_whatever_follows looks at end input rest more (piece ∷ pieces) written =
      let turn = looks at input more written.0 piece written.1 written.2 in
      (written.0, written.1, turn.1, subst (λ l. AreWritten IsTurn (after at written.0 written.1) l pieces end (rest ++ more)) (sym (drop-append-le written.0 input more turn.0)) (written_whatever_follows looks (after at written.0 written.1) end (drop written.0 input) rest more pieces written.3))
