-- A file is played on the places of a program. Assumes nothing.
use Rattle.std.proofs.Common.{◌≡◌, ℕ, true, List, [], ◌++◌, Some, None, Option, Ok, Err, refl, sym, ap, subst, ◌∙◌}
use Rattle.std.specs.Prelude.{Result, MatchResult, IfSome, is_err}
use Rattle.std.proofs.KnownBytes.{Appends-nil}
use Rattle.std.specs.Io.KnownBytes.{Appends}
use Rattle.tape.specs.declared.trouble.Trouble.{Trouble}
use Rattle.tape.specs.Ends.{Input, Output}
use Rattle.tape.specs.Places.{Places, places_of}
use Rattle.tape.specs.Played.{Lent, PlaysFile}
use Rattle.tape.specs.Tapes.{texts, lines_of_file, tape_of}
use Rattle.player.specs.Played.{program_places, WritesTape, WritesBeginning}

-- what an error is to mean, where there is one
pub at_err : {T E Q : Type 0} (P : Type 0) (r : Result T E) → is_err r ≡ true → Q → MatchResult r (λ _. P) (λ _. Q)
at_err P (Ok x) failed holds = absurd cc
at_err P (Err e) failed holds = holds

module _ (lot : ℕ) (meaning : ℕ → List ℕ → List ℕ) where
  -- where nothing is written
  pub nothing_written : (input : Input) (o : Output) → WritesBeginning lot meaning input o o
  nothing_written input o = written_of (is_known input.bytes).0 (is_known input.bytes).1
    where
      written_of : (file : List ℕ) → IfSome input.bytes (λ known. known ≡ file) → WritesBeginning lot meaning input o o
      written_of file brings = record { file = file; brings = brings; written = []; rest = tape_of lot meaning program_places file; begins = refl; wrote = Appends-nil o.bytes }

      is_known : (i : Option (List ℕ)) → (file : List ℕ) × IfSome i (λ known. known ≡ file)
      is_known None = ([], tt)
      is_known (Some file) = (file, refl)

  -- a call that plays a file was lent the places of a program
  module _ (before after : Lent) (as_many : places_of before.lists ≡ program_places) where
    same_tape : (file : List ℕ) → tape_of lot meaning (places_of before.lists) file ≡ tape_of lot meaning program_places file
    same_tape file = ap (λ (p : Places). tape_of lot meaning p file) as_many

    pub plays_tape : (r : Result (Unit {0}) Trouble) → PlaysFile lot meaning r before after
        → MatchResult r (λ _. WritesTape lot meaning before.input before.output after.output) (λ _. WritesBeginning lot meaning before.input before.output after.output)
    plays_tape (Ok x) played =
        record {
          file = played.bytes;
          brings = by_input before.input.bytes played.whole;
          wrote = subst (Appends before.output.bytes after.output.bytes) (same_tape played.bytes) played.wrote;
        }
      where
        by_input : (i : Option (List ℕ)) → IfSome i (λ file. lines_of_file lot meaning (places_of before.lists) file ≡ lines_of_file lot meaning (places_of before.lists) played.bytes)
            → IfSome i (λ known. tape_of lot meaning program_places known ≡ tape_of lot meaning program_places played.bytes)
        by_input None whole = tt
        by_input (Some file) whole = sym (same_tape file) ∙ ap texts whole ∙ same_tape played.bytes
    plays_tape (Err t) stuck =
        let file = stuck.taken ++ (stuck.untaken ++ stuck.unread) in
        record { file = file; brings = stuck.whole; written = stuck.written; rest = stuck.unwritten; begins = sym (same_tape file) ∙ stuck.begins; wrote = stuck.wrote }
