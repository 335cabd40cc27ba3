-- The figures of a book after an accepted entry, as one law for all kinds of entry. Assumes nothing.
--
--   cell-figures, deliveries-figures, account-figures   a cell, an hour's deliveries and an account after the entry
--   after-posted                                        every figure is as the entry makes it
--   posted_keeps                                        and the book keeps what an opened one keeps
--
-- All of them take a book that keeps that, and an entry that it accepts (`taken` of Taken).
use Rattle.std.proofs.Common.{◌≡◌, ℕ, ◌*◌, ◌<◌, ◌≤◌, true, ◌&&◌, length, get_or, nat_abs, sym, refl, ap, ◌∙◌, ap₂, subst₂, ⊎_elim, arith}
use Rattle.std.proofs.lemmas.List.{get_or_past}
use Rattle.std.proofs.lemmas.Bool.{cases_lt}
use Rattle.units.proofs.Integers.{sum-within}
use Rattle.hourly.specs.Cells.{CellFigures, blank, read, sound}
use Rattle.hourly.specs.Records.{HourFigures, no_deliveries, record_plain, record_read, record_sound}
use Rattle.entries.specs.declared.entry.Entry.{Entry}
use Rattle.entries.specs.declared.entry.Sizes.{Sizes}
use Rattle.book.specs.Held.{Held, account_read, account_sound, cell_at, no_money, paged, sized, standing_on}
use Rattle.book.specs.Posting.{posted}
use Rattle.book.proofs.Places.{fitting}
use Rattle.runs.specs.After.{After, account_after, cell_after, deliveries_after, regulating_by, tenths_by}
use Rattle.runs.specs.Kept.{Kept, hour_kwh}
use Rattle.runs.proofs.Amounts.{hour_more, reading-within, regulating-few, tenths-few}
use Rattle.runs.proofs.Figures.{AccountOk, CellOk, account_on, account_read_ok, cell_on, hour-few, read-account, read_ok, read_plain, read_record, sound-account, sound-plain, sound_record}
use Rattle.runs.proofs.Pages.{account-laid, accounts-long, cell-laid, cells_fit, cells-long, operator-kept, record_laid, records_fit, records-long, sizes-kept, state-laid, states-long}
use Rattle.runs.proofs.Places.{hour_placed, placed}
use Rattle.runs.proofs.Taken.{Taken}

module _ (h : Held) (e : Entry) (k : Kept h) (w : Taken h e) where
  -- deliveries to a cell are among those of its hour, also afterwards
  pub regulating-after : (p d t : ℕ) → p < h.sizes.parties → d < h.sizes.days → t < 24 → nat_abs (cell_after e p d t ((standing_on h).cell p d t)).regulating ≤ hour_kwh (deliveries_after e d t ((standing_on h).deliveries d t))
  regulating-after p d t hp hd ht =
      let c = (standing_on h).cell p d t in
      let a = k.regulating p d t hp hd ht in
      let b = regulating-few e p d t in
      let m = hour_more e d t ((standing_on h).deliveries d t) in
      let s = sum-within c.regulating (regulating_by e p d t) in
      omega arith

  pub tenths-after : (p d t : ℕ) → p < h.sizes.parties → d < h.sizes.days → t < 24 → nat_abs (cell_after e p d t ((standing_on h).cell p d t)).tenths ≤ 99999 * hour_kwh (deliveries_after e d t ((standing_on h).deliveries d t))
  tenths-after p d t hp hd ht =
      let c = (standing_on h).cell p d t in
      let a = k.tenths p d t hp hd ht in
      let b = tenths-few h.sizes e w.fields p d t in
      let m = hour_more e d t ((standing_on h).deliveries d t) in
      let s = sum-within c.tenths (tenths_by e p d t) in
      omega arith

  -- no figure leaves its bounds
  pub cell-within : (p d t : ℕ) → p < h.sizes.parties → d < h.sizes.days → t < 24 → CellOk (cell_after e p d t ((standing_on h).cell p d t))
  cell-within p d t hp hd ht =
      let few = hour-few (deliveries_after e d t ((standing_on h).deliveries d t)) (w.room d t) in
      let r = regulating-after p d t hp hd ht in
      let x = tenths-after p d t hp hd ht in
      let o = read_ok (cell_on h p d t) in
      record {
        position = w.positions p d t;
        regulating = omega arith;
        tenths = omega arith;
        reading = reading-within h.sizes e w.fields p d t ((standing_on h).cell p d t).reading o.reading;
        last = o.last;
      }

  pub account-within : (p : ℕ) → AccountOk (account_after e p ((standing_on h).account p))
  account-within p = record { cash = w.cash p; settled = (account_read_ok (account_on h p)).settled }

  -- a cell, an hour's deliveries and an account after the entry
  pub cell-figures : (p d t : ℕ) → p < h.sizes.parties → d < h.sizes.days → t < 24 → (standing_on (posted h e)).cell p d t ≡ cell_after e p d t ((standing_on h).cell p d t)
  cell-figures p d t hp hd ht =
      ap (λ (s : Sizes). read (get_or (posted h e).cells (cell_at s p d t) blank)) (sizes-kept h e)
      ∙ ap read (cell-laid h k e w.fields p d t hd ht)
      ∙ read_plain (cell_after e p d t ((standing_on h).cell p d t)) (cell-within p d t hp hd ht)

  pub deliveries-figures : (d t : ℕ) → t < 24 → (standing_on (posted h e)).deliveries d t ≡ deliveries_after e d t ((standing_on h).deliveries d t)
  deliveries-figures d t ht = ap record_read (record_laid h k e w.fields d t ht) ∙ read_record (deliveries_after e d t ((standing_on h).deliveries d t)) (w.room d t)

  pub account-figures : (p : ℕ) → (standing_on (posted h e)).account p ≡ account_after e p ((standing_on h).account p)
  account-figures p = ap account_read (account-laid h k e w.fields p) ∙ read-account (account_after e p ((standing_on h).account p)) (sound-account _ (account-within p))

  pub after-posted : After h.sizes (standing_on h) e (standing_on (posted h e))
  after-posted = record {
    cell = cell-figures;
    deliveries = λ d t hd ht. deliveries-figures d t ht;
    hours = λ d. refl;
    state = λ d hd. state-laid h k e w.fields d;
    account = λ p hp. account-figures p;
    operator = operator-kept h e;
  }

  -- every page stays sound
  cells-sound : (n : ℕ) → sound (get_or (posted h e).cells n blank) ≡ true
  cells-sound n =
      let some-days : 1 ≤ h.sizes.days = (fitting h k.fitting).0.2 in
      let long = cells-long h k e w.fields in
      ⊎_elim
      (λ l. let at = placed h.sizes.parties h.sizes.days n some-days l in
      ap (λ i. sound (get_or (posted h e).cells i blank)) at.is
      ∙ ap sound (cell-laid h k e w.fields at.party at.day at.hour at.day_in at.hour_in)
      ∙ sound-plain _ (cell-within at.party at.day at.hour at.party_in at.day_in at.hour_in))
      (λ g. ap sound (get_or_past (posted h e).cells n blank (omega (arith, cells_fit h k))))
      (cases_lt n (h.sizes.parties * h.sizes.days * 24))

  records-sound : (n : ℕ) → record_sound (get_or (posted h e).records n (record_plain no_deliveries)) ≡ true
  records-sound n =
      let long = records-long h e in
      ⊎_elim
      (λ l. let at = hour_placed h.sizes.days n l in
      ap (λ i. record_sound (get_or (posted h e).records i (record_plain no_deliveries))) at.is
      ∙ ap record_sound (record_laid h k e w.fields at.day at.hour at.hour_in)
      ∙ sound_record _ (w.room at.day at.hour))
      (λ g. ap record_sound (get_or_past (posted h e).records n (record_plain no_deliveries) (omega (arith, records_fit h k))))
      (cases_lt n (h.sizes.days * 24))

  accounts-sound : (n : ℕ) → account_sound (get_or (posted h e).accounts n no_money) ≡ true
  accounts-sound n = ap account_sound (account-laid h k e w.fields n) ∙ sound-account _ (account-within n)

  party_in : (p : ℕ) → p < (posted h e).sizes.parties → p < h.sizes.parties
  party_in p l = let s = ap (λ (x : Sizes). x.parties) (sizes-kept h e) in omega arith

  day_in : (d : ℕ) → d < (posted h e).sizes.days → d < h.sizes.days
  day_in d l = let s = ap (λ (x : Sizes). x.days) (sizes-kept h e) in omega arith

  pub posted_keeps : Kept (posted h e)
  posted_keeps = record {
    fitting =
        ap (λ (s : Sizes). sized s && paged s (length (posted h e).cells) (length (posted h e).records)) (sizes-kept h e)
        ∙ ap₂ (λ (c r : ℕ). sized h.sizes && paged h.sizes c r) (cells-long h k e w.fields) (records-long h e)
        ∙ k.fitting;
    twenty = accounts-long h e ∙ k.twenty;
    sixty_two = states-long h e ∙ k.sixty_two;
    sound_pages = record { cells = cells-sound; records = records-sound; accounts = accounts-sound };
    regulating = λ p d t hp hd ht. subst₂ (λ (c : CellFigures) (f : HourFigures). nat_abs c.regulating ≤ hour_kwh f)
        (sym (cell-figures p d t (party_in p hp) (day_in d hd) ht))
        (sym (deliveries-figures d t ht))
        (regulating-after p d t (party_in p hp) (day_in d hd) ht);
    tenths = λ p d t hp hd ht. subst₂ (λ (c : CellFigures) (f : HourFigures). nat_abs c.tenths ≤ 99999 * hour_kwh f)
        (sym (cell-figures p d t (party_in p hp) (day_in d hd) ht))
        (sym (deliveries-figures d t ht))
        (tenths-after p d t (party_in p hp) (day_in d hd) ht);
  }
