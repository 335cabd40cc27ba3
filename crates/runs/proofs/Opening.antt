-- A newly opened book. Assumes nothing.
use Rattle.std.proofs.Common.{◌≡◌, ℕ, zero, suc, ◌*◌, true, get_or, replicate, pos, nat_abs, refl, ap, ◌∙◌, arith}
use lib.ListN.{length-replicate}
use Rattle.std.proofs.lemmas.Bool.{and_from, eq-eqb}
use Rattle.hourly.specs.Cells.{CellFigures, blank, cleared, read, sound}
use Rattle.hourly.specs.Records.{no_deliveries, record_plain, record_sound}
use Rattle.entries.specs.declared.entry.DayState.TheVariants.{Open}
use Rattle.entries.specs.declared.entry.Sizes.{Sizes}
use Rattle.book.specs.declared.account.Account.{Account}
use Rattle.book.specs.Held.{account_read, account_sound, cell_at, no_money, sized, standing_on}
use Rattle.book.specs.Posting.{opened}
use Rattle.runs.specs.Kept.{Kept}
use Rattle.runs.specs.Runs.{CashIs, LevelPositions}
use Rattle.runs.proofs.SumLaws.{sum_ext, sum_zero}

-- the same everywhere, also past the end
pub replicate_at : {A : Type 0} (n k : ℕ) (x : A) → get_or (replicate n x) k x ≡ x
replicate_at zero k x = refl
replicate_at (suc n) zero x = refl
replicate_at (suc n) (suc k) x = replicate_at n k x

module _ (s : Sizes) where
  pub cell-opened : (p d t : ℕ) → (standing_on (opened s)).cell p d t ≡ cleared
  cell-opened p d t = ap read (replicate_at (s.parties * s.days * 24) (cell_at s p d t) blank)

  pub account-opened : (p : ℕ) → (standing_on (opened s)).account p ≡ no_money
  account-opened p = ap account_read (replicate_at 20 p no_money)

  pub opened_keeps : sized s ≡ true → Kept (opened s)
  opened_keeps ok = record {
    fitting = and_from _ _ ok (and_from _ _ (eq-eqb _ _ (length-replicate (s.parties * s.days * 24) blank)) (eq-eqb _ _ (length-replicate (s.days * 24) (record_plain no_deliveries))));
    twenty = length-replicate 20 no_money;
    sixty_two = length-replicate 62 Open;
    sound_pages = record {
      cells = λ k. ap sound (replicate_at (s.parties * s.days * 24) k blank);
      records = λ k. ap record_sound (replicate_at (s.days * 24) k (record_plain no_deliveries));
      accounts = λ k. ap account_sound (replicate_at 20 k no_money);
    };
    regulating = λ p d t hp hd ht. let z = ap (λ (c : CellFigures). nat_abs c.regulating) (cell-opened p d t) in omega arith;
    tenths = λ p d t hp hd ht. let z = ap (λ (c : CellFigures). nat_abs c.tenths) (cell-opened p d t) in omega arith;
  }

  pub opened-level : LevelPositions (opened s)
  opened-level d t hd ht = sum_ext s.parties (λ p. ((standing_on (opened s)).cell p d t).position) (λ _. pos 0) (λ p hp. ap (λ (c : CellFigures). c.position) (cell-opened p d t)) ∙ sum_zero s.parties

  pub opened-cash : CashIs (opened s) (pos 0)
  opened-cash = sum_ext s.parties (λ p. ((standing_on (opened s)).account p).cash) (λ _. pos 0) (λ p hp. ap (λ (a : Account). a.cash) (account-opened p)) ∙ sum_zero s.parties
