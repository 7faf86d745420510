-- Every case holds.
use Rattle.std.proofs.Common.{◌++◌, map, refl}
use Rattle.std.specs.List.{AllByRecursion}
use Rattle.std.proofs.ByRecursion.{All-append}
use Rattle.field.specs.Codes.{sum}
use Rattle.field.specs.Known.{worked_products}
use Rattle.field.specs.Polynomials.{times, reduce}
use Rattle.sharing.specs.Worked.{worked_deals}
use Rattle.worked.specs.Cases.{Holds, worked_checks, worked_dealings, worked_openings, worked_returns}
use Rattle.worked.specs.Cases.Case.{cards, check, dealing, opening, product, returning}
use Rattle.worked.proofs.Openings.{opened_all}
use Rattle.worked.proofs.Plans.{checked}
use Rattle.worked.proofs.Returns.{returned_all}
use Rattle.worked.proofs.Runs.{dealt_all}
use Rattle.worked.proofs.worked_cases.Goals as goal

products : AllByRecursion Holds (map product worked_products)
unfolding times reduce
products = ((refl, tt), ((refl, tt), ((refl, tt), tt)))

deals : AllByRecursion Holds (map cards worked_deals)
unfolding sum times reduce
deals = ((refl, tt), ((refl, tt), ((refl, tt), tt)))

pub returns : goal.returns
returns c =
    let from-openings = map opening worked_openings ++ map returning worked_returns in
    let from-dealings = map dealing worked_dealings ++ from-openings in
    let from-checks = map check worked_checks ++ from-dealings in
    let from-deals = map cards worked_deals ++ from-checks in
    record {
      number = refl;
      hold = All-append Holds (map product worked_products) from-deals products
          (All-append Holds (map cards worked_deals) from-checks deals
          (All-append Holds (map check worked_checks) from-dealings checked
          (All-append Holds (map dealing worked_dealings) from-openings dealt_all
          (All-append Holds (map opening worked_openings) (map returning worked_returns) opened_all returned_all))));
    }
