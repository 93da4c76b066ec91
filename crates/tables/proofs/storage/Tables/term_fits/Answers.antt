use Rattle.std.proofs.Common.{◌≡◌, ◌&&◌, rules}
use Rattle.std.specs.List.{list_all}
use Rattle.std.proofs.lemmas.Iterator.{YieldsList-from_slice}
use Rattle.std.proofs.lemmas.Iterator.Search.{all_from_yields_List}
use Rattle.tables.specs.Shapes.{is_name, is_term}
use Rattle.tables.proofs.storage.Tables.term_fits.Goals as goal

pub returns-then-is_type : goal.returns-then-is_type
returns-then-is_type c =
    let e : c.all.result ≡ list_all (is_term c.args.self.now) c.in-Set.elements.now =
    all_from_yields_List (is_term c.args.self.now) _ _ _ c.all.ensures.ran (YieldsList-from_slice c.in-Set.elements.now cc) (λ x b q k. search rules) in
    search rules

pub returns-in-Record : goal.returns-in-Record
returns-in-Record c =
    let e : c.all-in-Record.result ≡ list_all (λ f. is_name c.args.self.now f.name && is_term c.args.self.now f.term) c.in-Record.fields.now =
    all_from_yields_List (λ f. is_name c.args.self.now f.name && is_term c.args.self.now f.term) _ _ _ c.all-in-Record.ensures.ran (YieldsList-from_slice c.in-Record.fields.now cc) (λ x b q k. search rules) in
    search rules
