-- An input that is read block by block and answered. Assumes nothing.
use Rattle.std.proofs.Common.{ℕ, ◌+◌, ◌<◌, List, [], ◌∷◌, ◌++◌, length, get_or, take, append-nil, subst, Ok, Err, Option, Result, IfOk, ◌≡◌}
use Rattle.std.proofs.KnownBytes.{Appends-trans, Consumes-trans}
use Rattle.std.specs.Io.KnownBytes.{Appends, Consumes, IsAtEnd}
use Rattle.answers.specs.declared.Answer.{Answer}
use Rattle.journal.specs.declared.input.Input.{Input}
use Rattle.journal.specs.Lines.{Ran}
use Rattle.journal.specs.Streams.{Feeds, Ends, Answers}
use Rattle.journal.proofs.Running.{runs_more}

module _ {J V : Type 0} (view : J → V) (A : V → List ℕ → Answer → V → Type 0) where
  -- one byte more of a block
  pub feeds_more : (i m k : Input J) (block : List ℕ) (n : ℕ) (held mid new : Option (List ℕ)) → n < length block → Feeds view A i (take n block) m held mid → Feeds view A m (get_or block n 0 ∷ []) k mid new → Feeds view A i (take (n + 1) block) k held new
  feeds_more i m k block n held mid new h f b =
      record { text = f.text ++ b.text; runs = runs_more view A i m k block n f.text b.text h f.runs b.runs; written = Appends-trans held mid new f.text b.text f.written b.written }

  -- what was read and answered so far
  pub record Going (j : V) (i : Input J) (left rest held new : Option (List ℕ)) : Type 0 where
    pub input : List ℕ
    pub output : List ℕ
    pub taken : Consumes left rest input
    pub ran : Ran view A j i input output
    pub written : Appends held new output

  pub going_more : (j : V) (i k : Input J) (block : List ℕ) (left rest less held mid new : Option (List ℕ)) → Going j i left rest held mid → Consumes rest less block → Feeds view A i block k mid new → Going j k left less held new
  going_more j i k block left rest less held mid new g c f =
      record {
        input = g.input ++ block;
        output = g.output ++ f.text;
        taken = Consumes-trans left rest less g.input block g.taken c;
        ran = f.runs j g.input g.output g.ran;
        written = Appends-trans held mid new g.output f.text g.written f.written;
      }

  going_end : (j : V) (k : J) (i : Input J) (left rest less held mid new : Option (List ℕ)) → Going j i left rest held mid → Consumes rest less [] → IsAtEnd less → Ends view A i mid new k → Answers A j left less held new (view k)
  going_end j k i left rest less held mid new g c e f =
      record {
        input = g.input;
        output = g.output ++ f.text;
        taken = subst (Consumes left less) (append-nil g.input) (Consumes-trans left rest less g.input [] g.taken c);
        ended = e;
        answered = f.answered j g.input g.output g.ran;
        written = Appends-trans held mid new g.output f.text g.written f.written;
      }

  pub going_ends : {E : Type 0} (j : V) (i : Input J) (block : List ℕ) (n : ℕ) (left rest less held mid new : Option (List ℕ)) (r : Result J E) → Going j i left rest held mid → Consumes rest less (take n block) × (n ≡ 0 → 0 < length block → IsAtEnd less) → n ≡ 0 → 0 < length block → IfOk r (Ends view A i mid new) → IfOk r (λ k. Answers A j left less held new (view k))
  going_ends j i block n left rest less held mid new (Ok k) g c z h f = going_end j k i left rest less held mid new g (subst (λ m. Consumes rest less (take m block)) z c.0) (c.1 z h) f
  going_ends j i block n left rest less held mid new (Err x) g c z h f = tt
