use Rattle.std.proofs.Common.{◌≡◌, rules}
use Rattle.std.specs.List.{list_all}
use Rattle.std.proofs.lemmas.Iterator.{YieldsList-from_slice}
use Rattle.std.proofs.lemmas.Iterator.Search.{all_from_yields_List}
use Rattle.tables.specs.Contents.{literal_at}
use Rattle.tables.proofs.storage.Tables.literal.Goals as goal

pub returns-in-Set : goal.returns-in-Set
returns-in-Set c =
    let e : c.all.result ≡ list_all (literal_at c.args.self.now) c.in-Set.elements.now =
    all_from_yields_List (literal_at c.args.self.now) _ _ _ c.all.ensures.ran (YieldsList-from_slice c.in-Set.elements.now cc) (λ x b q k. search rules) in
    search rules

pub returns-in-Record : goal.returns-in-Record
returns-in-Record c =
    let e : c.all-in-Record.result ≡ list_all (λ f. literal_at c.args.self.now f.term) c.in-Record.fields.now =
    all_from_yields_List (λ f. literal_at c.args.self.now f.term) _ _ _ c.all-in-Record.ensures.ran (YieldsList-from_slice c.in-Record.fields.now cc) (λ x b q k. search rules) in
    search rules
