use Rattle.std.proofs.Common.{◌≡◌, ℕ, ◌+◌, ◌<◌, ◌≤◌, List, length, get_or, take, drop, sym, ap, ◌∙◌, ap₂, subst, arith, length-drop, length-take, w64, to_z, of_z, rules}
use Rattle.std.specs.List.{position, zip}
use Rattle.std.specs.Option.{IfSome, option_map}
use Rattle.std.proofs.lemmas.List.{get_or-take, get_or-drop}
use Rattle.std.proofs.lemmas.Slice.Zip.{length-zip, get_or-zip}
use Rattle.hourly.specs.declared.plain.PlainCell.{PlainCell}
use Rattle.hourly.specs.Cells.{blank}
use Rattle.book.specs.declared.checks.Sale.{Sale}
use Rattle.book.specs.Checks.{first}
use Rattle.book.specs.Sales.{beyond_in, over}
use Rattle.book.proofs.Firsts.{first_position, first_within}
use Rattle.book.proofs.checks.first_beyond.Goals as goal

run : (cells : List PlainCell) (a from n k : ℕ) → k < n → get_or (take n (drop (a + from) cells)) k blank ≡ get_or cells (a + (from + k)) blank
run cells a from n k l =
    let at : a + from + k ≡ a + (from + k) = omega arith in
    get_or-take n (drop (a + from) cells) k blank l ∙ get_or-drop (a + from) cells k blank ∙ ap (λ j. get_or cells j blank) at

long : (cells : List PlainCell) (a from n : ℕ) → a + (from + n) ≤ length cells → length (take n (drop (a + from) cells)) ≡ n
long cells a from n l = omega (arith, length-take n (drop (a + from) cells), length-drop (a + from) cells)

-- side by side, the cells of seller and buyer are tested in the order of the hours
first_of_sale : (cells : List PlainCell) (s : Sale) → s.seller + (s.from + s.hours) ≤ length cells → s.buyer + (s.from + s.hours) ≤ length cells → option_map (λ k. s.from + k) (position (λ (pair : PlainCell × PlainCell). over s.kwh pair.0 pair.1) (zip (take s.hours (drop (s.seller + s.from) cells)) (take s.hours (drop (s.buyer + s.from) cells)))) ≡ first (beyond_in cells s) s.from s.hours
first_of_sale cells s ls lb =
    let xs = take s.hours (drop (s.seller + s.from) cells) in
    let ys = take s.hours (drop (s.buyer + s.from) cells) in
    let lx : length xs ≡ s.hours = long cells s.seller s.from s.hours ls in
    let ly : length ys ≡ s.hours = long cells s.buyer s.from s.hours lb in
    let lz : length (zip xs ys) ≡ s.hours = omega (arith, length-zip xs ys) in
    first_position (λ (pair : PlainCell × PlainCell). over s.kwh pair.0 pair.1) (zip xs ys) (blank, blank) (beyond_in cells s) s.from
    (λ k l. let kx : k < length xs = omega arith in
    let ky : k < length ys = omega arith in
    let kn : k < s.hours = omega arith in
    ap₂ (over s.kwh) (sym (run cells s.seller s.from s.hours k kn)) (sym (run cells s.buyer s.from s.hours k kn))
    ∙ ap (λ (pair : PlainCell × PlainCell). over s.kwh pair.0 pair.1) (sym (get_or-zip xs ys k (blank, blank) kx ky)))
    ∙ ap (first (beyond_in cells s) s.from) lz

pub returns : goal.returns
returns c =
    let cells = c.args.cells.now in
    let s = c.args.sale.now in
    let test = λ (pair : PlainCell × PlainCell). over s.kwh pair.0 pair.1 in
    let kwh : to_z w64 (of_z w64 s.kwh) ≡ s.kwh = search rules in
    let found =
    c.first_in.ensures.value
    ∙ ap (λ z. position (λ (pair : PlainCell × PlainCell). over z pair.0 pair.1) (zip c.hours_of-sellers.result.now c.hours_of-buyers.result.now)) kwh
    ∙ ap₂ (λ (us vs : List PlainCell). position test (zip us vs)) c.hours_of-sellers.ensures c.hours_of-buyers.ensures in
    let mapped : c.map.result ≡ option_map (λ k. s.from + k) c.first_in.result = search rules in
    let is = mapped ∙ ap (option_map (λ k. s.from + k)) found ∙ first_of_sale cells s c.requires.seller c.requires.buyer in
    record {
      value = is;
      within = subst (λ o. IfSome o (λ hour. hour < s.from + s.hours)) (sym is) (first_within (beyond_in cells s) s.from s.hours);
    }
