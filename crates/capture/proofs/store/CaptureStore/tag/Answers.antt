use Rattle.std.proofs.Common.{vec_items, rules}
use Rattle.forest.specs.Stores.{item_tag}
use Rattle.capture.proofs.Standing.{reads, blank}
use Rattle.capture.proofs.store.CaptureStore.tag.Goals as goal

pub returns-in-Event : goal.returns-in-Event
returns-in-Event c = let r = reads item_tag 0 (vec_items c.args.self.now.events) c.args.handle c.index.result.now c.place.result c.place.ensures in search rules

pub returns-in-Part : goal.returns-in-Part
returns-in-Part c = let r = reads item_tag 0 (vec_items c.args.self.now.events) c.args.handle blank c.place.result c.place.ensures in search rules

pub returns-in-Value : goal.returns-in-Value
returns-in-Value c = let r = reads item_tag 0 (vec_items c.args.self.now.events) c.args.handle blank c.place.result c.place.ensures in search rules

pub returns-in_default : goal.returns-in_default
returns-in_default c = let r = reads item_tag 0 (vec_items c.args.self.now.events) c.args.handle blank c.place.result c.place.ensures in search rules
