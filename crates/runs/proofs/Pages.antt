-- What lies on each page after an entry whose fields are in range, as one law for all kinds of entry. Assumes nothing.
--
--   cell-laid, record_laid, account-laid, state-laid   what lies on each page
--   cells-long, records-long, ..                       how long each page is
use Rattle.std.proofs.Common.{◌≡◌, ℕ, ◌*◌, ◌<◌, ◌≤◌, true, cond, ◌&&◌, eqb, length, get_or, ℤ, pos, ◌+ℤ◌, neg_ℤ, nat_abs, sym, refl, ap, ◌∙◌, arith}
use Rattle.std.proofs.lemmas.List.{length-set}
use Rattle.hourly.specs.Cells.{blank, plain, sound}
use Rattle.hourly.specs.Records.{no_deliveries, record_plain, record_sound}
use Rattle.rows.specs.Changes.{metered, regulated}
use Rattle.entries.specs.Sane.{Sane}
use Rattle.entries.specs.declared.entry.DayState.TheVariants.{Open}
use Rattle.entries.specs.declared.entry.Entry.{Entry}
use Rattle.entries.specs.declared.entry.Entry.TheVariants.{Deposit, Withdraw, Register, Market, Close, Regulate, Meter, Evaluate}
use Rattle.book.specs.declared.account.Account.{Account}
use Rattle.book.specs.Standing.{index}
use Rattle.book.specs.Effects.{in_hours, market_cash}
use Rattle.book.specs.Held.{Held, account_read, account_sound, cell_at, no_money, record_at, standing_on}
use Rattle.book.specs.Posting.{credited, posted, with_cash}
use Rattle.book.proofs.Places.{fitting}
use Rattle.runs.specs.After.{account_after, cell_after, deliveries_after, state_after}
use Rattle.runs.specs.Kept.{Kept}
use Rattle.runs.proofs.Figures.{account_on, cell_on, plain_record, record_on}
use Rattle.runs.proofs.Laid.{credited-laid, length-row, length-sale, metered-cell, moved-laid, paid-account, recorded-laid, regulated-cell, row_laid, row_of, sale-laid, traded-account, unpaid_account, untouched}
use Rattle.runs.proofs.Taken.{two_parties}

-- What lies on each page

module _ (h : Held) (k : Kept h) where
  pub cells_fit : length h.cells ≡ h.sizes.parties * h.sizes.days * 24
  cells_fit = (fitting h k.fitting).1

  pub records_fit : length h.records ≡ h.sizes.days * 24
  records_fit = (fitting h k.fitting).2

  sound-cell : (p d t : ℕ) → sound (cell_on h p d t) ≡ true
  sound-cell p d t = k.sound_pages.cells (cell_at h.sizes p d t)

  -- each cell of the page lies as the entry makes it
  pub cell-laid : (e : Entry) → Sane h.sizes e → (p d t : ℕ) → d < h.sizes.days → t < 24 → get_or (posted h e).cells (cell_at h.sizes p d t) blank ≡ plain (cell_after e p d t ((standing_on h).cell p d t))
  cell-laid (Deposit party haler) s p d t hd ht = untouched (cell_on h p d t) (sound-cell p d t)
  cell-laid (Withdraw party haler) s p d t hd ht = untouched (cell_on h p d t) (sound-cell p d t)
  cell-laid (Register day from to seller buyer kwh) s p d t hd ht = sale-laid h day from to seller buyer kwh p d t (row_of h.sizes seller day from to s.0.0 s.1 s.2) (row_of h.sizes buyer day from to s.0.1 s.1 s.2) (two_parties h.sizes seller buyer s.0 p) cells_fit hd ht (sound-cell p d t)
  cell-laid (Market day from to seller buyer kwh price) s p d t hd ht = sale-laid h day from to seller buyer kwh p d t (row_of h.sizes seller day from to s.0.0 s.1 s.2) (row_of h.sizes buyer day from to s.0.1 s.1 s.2) (two_parties h.sizes seller buyer s.0 p) cells_fit hd ht (sound-cell p d t)
  cell-laid (Close day) s p d t hd ht = untouched (cell_on h p d t) (sound-cell p d t)
  cell-laid (Regulate day hour party kwh price) s p d t hd ht =
      row_laid h party day hour hour (regulated kwh price) h.cells p d t (row_of h.sizes party day hour hour s.0 s.1 (s.2, s.2, omega arith)) cells_fit hd ht
      ∙ regulated-cell (in_hours day hour hour d t) (eqb p (index party)) kwh price (cell_on h p d t) (sound-cell p d t)
  cell-laid (Meter day from to party kwh) s p d t hd ht =
      row_laid h party day from to (metered kwh) h.cells p d t (row_of h.sizes party day from to s.0 s.1 s.2) cells_fit hd ht
      ∙ metered-cell (eqb p (index party) && in_hours day from to d t) kwh (cell_on h p d t) (sound-cell p d t)
  cell-laid (Evaluate day stage) s p d t hd ht = untouched (cell_on h p d t) (sound-cell p d t)

  sound_record_on : (d t : ℕ) → record_sound (record_on h d t) ≡ true
  sound_record_on d t = k.sound_pages.records (record_at d t)

  -- a record that no entry touches lies as it was read
  kept_record : (d t : ℕ) → record_on h d t ≡ record_plain ((standing_on h).deliveries d t)
  kept_record d t = sym (plain_record (record_on h d t) (sound_record_on d t))

  -- each record of the page
  pub record_laid : (e : Entry) → Sane h.sizes e → (d t : ℕ) → t < 24 → get_or (posted h e).records (record_at d t) (record_plain no_deliveries) ≡ record_plain (deliveries_after e d t ((standing_on h).deliveries d t))
  record_laid (Deposit party haler) s d t ht = kept_record d t
  record_laid (Withdraw party haler) s d t ht = kept_record d t
  record_laid (Register day from to seller buyer kwh) s d t ht = kept_record d t
  record_laid (Market day from to seller buyer kwh price) s d t ht = kept_record d t
  record_laid (Close day) s d t ht = kept_record d t
  record_laid (Regulate day hour party kwh price) s d t ht =
      let r = row_of h.sizes party day hour hour s.0 s.1 (s.2, s.2, omega arith) in
      let h1 : 1 ≤ nat_abs hour = s.2.1 in
      let h2 : nat_abs hour ≤ 24 = s.2.2 in
      recorded-laid h day hour kwh price d t r.day_in (omega arith) records_fit ht (sound_record_on d t)
  record_laid (Meter day from to party kwh) s d t ht = kept_record d t
  record_laid (Evaluate day stage) s d t ht = kept_record d t

  sound_account_on : (p : ℕ) → account_sound (account_on h p) ≡ true
  sound_account_on p = k.sound_pages.accounts p

  kept-account : (p : ℕ) → account_on h p ≡ record { cash = (account_read (account_on h p)).cash +ℤ pos 0; settled = (account_read (account_on h p)).settled }
  kept-account p = unpaid_account (account_on h p) (sound_account_on p)

  -- a party has an account
  has_account : (party : ℤ) → 1 ≤ nat_abs party → nat_abs party ≤ h.sizes.parties → index party < length h.accounts
  has_account party l m =
      let f : h.sizes.parties ≤ 20 = (fitting h k.fitting).0.1 in
      let t = k.twenty in
      omega arith

  -- each account
  pub account-laid : (e : Entry) → Sane h.sizes e → (p : ℕ) → get_or (posted h e).accounts p no_money ≡ account_after e p ((standing_on h).account p)
  account-laid (Deposit party haler) s p = credited-laid party haler h.accounts p (has_account party s.0.1 s.0.2) ∙ paid-account (eqb p (index party)) haler (account_on h p) (sound_account_on p)
  account-laid (Withdraw party haler) s p = credited-laid party (neg_ℤ haler) h.accounts p (has_account party s.0.1 s.0.2) ∙ paid-account (eqb p (index party)) (neg_ℤ haler) (account_on h p) (sound_account_on p)
  account-laid (Register day from to seller buyer kwh) s p = kept-account p
  account-laid (Market day from to seller buyer kwh price) s p =
      let x = market_cash from to kwh price in
      let first = credited seller x h.accounts in
      credited-laid buyer (neg_ℤ x) first p (omega (arith, length-set h.accounts (index seller) (with_cash x (account_read (get_or h.accounts (index seller) no_money))), has_account buyer s.0.1.1 s.0.1.2))
      ∙ ap (λ (a : Account). cond (eqb p (index buyer)) (with_cash (neg_ℤ x) (account_read a)) a) (credited-laid seller x h.accounts p (has_account seller s.0.0.1 s.0.0.2))
      ∙ traded-account (eqb p (index seller)) (eqb p (index buyer)) x (neg_ℤ x) (account_on h p) (two_parties h.sizes seller buyer s.0 p) (sound_account_on p)
  account-laid (Close day) s p = kept-account p
  account-laid (Regulate day hour party kwh price) s p = kept-account p
  account-laid (Meter day from to party kwh) s p = kept-account p
  account-laid (Evaluate day stage) s p = kept-account p

  -- each day's state
  pub state-laid : (e : Entry) → Sane h.sizes e → (d : ℕ) → get_or (posted h e).states d Open ≡ state_after e d ((standing_on h).state d)
  state-laid (Deposit party haler) s d = refl
  state-laid (Withdraw party haler) s d = refl
  state-laid (Register day from to seller buyer kwh) s d = refl
  state-laid (Market day from to seller buyer kwh price) s d = refl
  state-laid (Close day) s d =
      let d1 : 1 ≤ nat_abs day = s.1 in
      let d2 : nat_abs day ≤ h.sizes.days = s.2 in
      let f : h.sizes.days ≤ 62 = (fitting h k.fitting).0.3 in
      let l = k.sixty_two in
      moved-laid h (Close day) day d (omega arith)
  state-laid (Regulate day hour party kwh price) s d = refl
  state-laid (Meter day from to party kwh) s d = refl
  state-laid (Evaluate day stage) s d = refl

  -- Sizes

  pub cells-long : (e : Entry) → Sane h.sizes e → length (posted h e).cells ≡ length h.cells
  cells-long (Deposit party haler) s = refl
  cells-long (Withdraw party haler) s = refl
  cells-long (Register day from to seller buyer kwh) s = length-sale h day from to seller buyer kwh (row_of h.sizes seller day from to s.0.0 s.1 s.2) (row_of h.sizes buyer day from to s.0.1 s.1 s.2) cells_fit
  cells-long (Market day from to seller buyer kwh price) s = length-sale h day from to seller buyer kwh (row_of h.sizes seller day from to s.0.0 s.1 s.2) (row_of h.sizes buyer day from to s.0.1 s.1 s.2) cells_fit
  cells-long (Close day) s = refl
  cells-long (Regulate day hour party kwh price) s = length-row h party day hour hour (regulated kwh price) h.cells (row_of h.sizes party day hour hour s.0 s.1 (s.2, s.2, omega arith)) cells_fit
  cells-long (Meter day from to party kwh) s = length-row h party day from to (metered kwh) h.cells (row_of h.sizes party day from to s.0 s.1 s.2) cells_fit
  cells-long (Evaluate day stage) s = refl

-- an entry leaves the sizes, the operator's line and the lengths of the other pages
pub sizes-kept : (h : Held) (e : Entry) → (posted h e).sizes ≡ h.sizes
sizes-kept h (Deposit party haler) = refl
sizes-kept h (Withdraw party haler) = refl
sizes-kept h (Register day from to seller buyer kwh) = refl
sizes-kept h (Market day from to seller buyer kwh price) = refl
sizes-kept h (Close day) = refl
sizes-kept h (Regulate day hour party kwh price) = refl
sizes-kept h (Meter day from to party kwh) = refl
sizes-kept h (Evaluate day stage) = refl

pub operator-kept : (h : Held) (e : Entry) → (posted h e).operator ≡ h.operator
operator-kept h (Deposit party haler) = refl
operator-kept h (Withdraw party haler) = refl
operator-kept h (Register day from to seller buyer kwh) = refl
operator-kept h (Market day from to seller buyer kwh price) = refl
operator-kept h (Close day) = refl
operator-kept h (Regulate day hour party kwh price) = refl
operator-kept h (Meter day from to party kwh) = refl
operator-kept h (Evaluate day stage) = refl

pub records-long : (h : Held) (e : Entry) → length (posted h e).records ≡ length h.records
records-long h (Deposit party haler) = refl
records-long h (Withdraw party haler) = refl
records-long h (Register day from to seller buyer kwh) = refl
records-long h (Market day from to seller buyer kwh price) = refl
records-long h (Close day) = refl
records-long h (Regulate day hour party kwh price) = length-set h.records _ _
records-long h (Meter day from to party kwh) = refl
records-long h (Evaluate day stage) = refl

pub accounts-long : (h : Held) (e : Entry) → length (posted h e).accounts ≡ length h.accounts
accounts-long h (Deposit party haler) = length-set h.accounts _ _
accounts-long h (Withdraw party haler) = length-set h.accounts _ _
accounts-long h (Register day from to seller buyer kwh) = refl
accounts-long h (Market day from to seller buyer kwh price) = length-set (credited seller (market_cash from to kwh price) h.accounts) _ _ ∙ length-set h.accounts _ _
accounts-long h (Close day) = refl
accounts-long h (Regulate day hour party kwh price) = refl
accounts-long h (Meter day from to party kwh) = refl
accounts-long h (Evaluate day stage) = refl

pub states-long : (h : Held) (e : Entry) → length (posted h e).states ≡ length h.states
states-long h (Deposit party haler) = refl
states-long h (Withdraw party haler) = refl
states-long h (Register day from to seller buyer kwh) = refl
states-long h (Market day from to seller buyer kwh price) = refl
states-long h (Close day) = length-set h.states _ _
states-long h (Regulate day hour party kwh price) = refl
states-long h (Meter day from to party kwh) = refl
states-long h (Evaluate day stage) = refl
