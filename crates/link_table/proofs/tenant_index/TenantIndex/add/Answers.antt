use Rattle.std.proofs.Common.{Some, string_bytes}
use Rattle.std.proofs.lemmas.Map.Text.{btree_map_updates_text}
use Rattle.link_table.proofs.tenant_index.TenantIndex.add.Goals as goal

pub returns-clause-ok : goal.returns-clause-ok
returns-clause-ok c = btree_map_updates_text (string_bytes c.args.name) c.args.self.now.numbers c.insert.new.self (Some c.args.number) c.in_ok-insert.ensures.updates
